-- `action_rows` holds that the words before `k` are those of the part, by `words_more`.
use mathlib.Core.List.{[]}
use mathlib.Core.Path.{sym, ◌∙◌}
use Prim.Native.Nat.{◌*◌}
use native.Mathlib.Omega.{arith}
use lib.ListN.{length-set}
use Rattle.symplectic.specs.Sizes.{most_rows}
use Rattle.numbers.specs.Numbers.{part}
use Rattle.printout.proofs.Lent.{lent_length}
use Rattle.printout.proofs.Words.{words_none, words_more}
use Rattle.printout.proofs.action_rows.Goals as goal

pub loop-k-init : goal.loop-k-init
loop-k-init c =
    let s = c.args in
    (sym (lent_length s.m most_rows (omega (arith, c.requires))), words_none [] (part s.file.now s.offset (8 * s.m)))

pub loop-k-preserved : goal.loop-k-preserved
loop-k-preserved c =
    let s = c.args in
    let at = c.loop-k in (
      length-set at.row-items at.k c.word_at.result ∙ at.invariant.0,
      words_more s.file.now at.row-items s.offset s.m at.k c.word_at.result (omega arith) (omega arith) c.word_at.ensures at.invariant.1,
    )
