-- `draw_at` multiplies the rows of a level, a part of the lent words.
use mathlib.Core.Path.{sym, ap₂, ◌∙◌}
use Prim.Native.Nat.{◌+◌}
use native.Mathlib.Omega.{arith}
use lib.Seq.{get_or-drop}
use Rattle.blocks.specs.Matrices.{times}
use Rattle.blocks.specs.Words.{rows_in_lem}
use Rattle.blocks.proofs.Lent.{lent_few, lent_part, words_mono}
use borrow.Author.Rules.{rules}
use Rattle.search.proofs.levels.draw_at.Goals as goal

pub overflow_add-at : goal.overflow_add-at
overflow_add-at c = search (rules, lent_few c.args.basis.now)

pub overflow_add-at-2 : goal.overflow_add-at-2
overflow_add-at-2 c = search (rules, lent_few c.args.basis.now)

pub slice_bounds-times-count : goal.slice_bounds-times-count
slice_bounds-times-count c = omega (arith, c.start-to.ensures, c.start-from.ensures, words_mono c.args.at (c.args.at + c.args.d) (omega arith))

pub slice_bounds-times-start : goal.slice_bounds-times-start
slice_bounds-times-start c = omega (arith, c.start-to.ensures, c.start-from.ensures, words_mono c.args.at (c.args.at + c.args.d) (omega arith))

pub returns : goal.returns
returns c =
    let s = c.args in
    c.times.ensures
    ∙ ap₂ times (c.row.ensures ∙ sym (get_or-drop s.at (rows_in_lem s.basis.now) s.d 0))
    (lent_part s.at s.d c.start-from.result c.start-to.result s.basis.now c.start-from.ensures c.start-to.ensures)
