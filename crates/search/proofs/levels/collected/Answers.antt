-- `collected` puts the draw of each level, by `collect_draw` and `collect_next`.
use mathlib.Core.Path.{◌≡◌, sym, ap, ◌∙◌}
use Prim.Native.Nat.{◌+◌, ◌-◌, ◌<◌}
use native.Mathlib.Omega.{arith}
use lib.ListN.{length}
use Rattle.binar.specs.Rows.{val}
use Rattle.blocks.specs.Words.{rows_in_lem}
use Rattle.blocks.proofs.Lent.{lent_few}
use Rattle.blocks.proofs.Overs.{over_next, over_end}
use Rattle.search.specs.inner.Levels.{levels, found_in}
use Rattle.search.proofs.LentLevels.{levels_step, levels_least, found_length, collect_draw, collect_next}
use borrow.Author.Rules.{rules}
use Rattle.search.proofs.levels.collected.Goals as goal

pub draw_at-requires : goal.draw_at-requires
draw_at-requires c =
    let s = c.args in
    let at = c.loop-i in
    let i : at.i < s.k = omega (arith, c.min-n.ensures) in
    omega (arith, at.invariant.2, levels_least (s.k - at.i), c.requires.1)

pub overflow_add-at : goal.overflow_add-at
overflow_add-at c =
    let s = c.args in
    let at = c.loop-i in
    omega (arith, at.invariant.2, levels_least (s.k - at.i), c.requires.1, lent_few s.basis.now)

pub overflow_add-at-in-loop-i : goal.overflow_add-at-in-loop-i
overflow_add-at-in-loop-i c =
    let s = c.args in
    let at = c.loop-i in
    omega (arith, at.invariant.2, levels_least (s.k - at.i), c.requires.1, lent_few s.basis.now)

pub loop-i-preserved : goal.loop-i-preserved
loop-i-preserved c =
    let s = c.args in
    let at = c.loop-i in
    let B = rows_in_lem s.basis.now in
    let d = s.k - at.i in
    let i : at.i < s.k = omega (arith, c.min-n.ensures) in
    let room : at.i < length (rows_in_lem s.list.now) = omega (arith, c.min-n.ensures, c.rows_in.ensures) in
    let e : d - 1 ≡ s.k - (at.i + 1) = omega arith in
    let f : at.at + d + d + levels (d - 1) ≡ at.at + levels d = omega (arith, levels_step d (omega arith)) in (
      search rules,
      search rules,
      ap (λ n. at.at + d + d + levels n) (sym e) ∙ f ∙ at.invariant.2,
      collect_next s.k at.i at.at B i at.invariant.3,
      c.put.ensures
          ∙ over_next (found_in s.k B) (rows_in_lem s.list.now) (rows_in_lem at.list) at.i (val c.draw_at.result) (omega (arith, found_length s.k B)) room at.invariant.4
          (c.draw_at.ensures ∙ collect_draw s.k at.i at.at B i at.invariant.3),
    )

pub returns : goal.returns
returns c =
    let s = c.args in
    let at = c.loop-i in
    let B = rows_in_lem s.basis.now in
    at.invariant.4
    ∙ over_end (found_in s.k B) (rows_in_lem s.list.now) at.i (omega (arith, found_length s.k B, c.min-n.ensures, c.rows_in.ensures))
