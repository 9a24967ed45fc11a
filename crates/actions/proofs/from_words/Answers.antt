-- `from_words` writes the words over zero rows, one by one, by `rows_more`.
use mathlib.Core.Path.{sym, ap, ◌∙◌}
use Prim.Native.Nat.{◌+◌, ◌<◌}
use native.Mathlib.Omega.{arith}
use lib.ListN.{length, take, replicate}
use Rattle.blocks.specs.Words.{rows_of_words}
use Rattle.blocks.proofs.Values.{rows_count, rows_word}
use Rattle.symplectic.specs.Sizes.{most_rows, capped}
use Rattle.actions.specs.Actions.{qubits, matrix}
use Rattle.symplectic.proofs.Sizes.{capped_le}
use Rattle.actions.proofs.Arrays.{vals_replicate, rows_more, padded_rows}
use borrow.Author.Rules.{rules}
use Rattle.actions.proofs.from_words.Goals as goal

pub loop-i-init : goal.loop-i-init
loop-i-init c = (search rules, vals_replicate most_rows c.zero-rows.result c.zero-rows.ensures)

pub loop-i-preserved : goal.loop-i-preserved
loop-i-preserved c =
    let at = c.loop-i in
    let w = c.args.words.now in
    let n = c.args.n in
    let e = c.min-i-end.ensures in
    let hw : at.i < length (rows_of_words n w) = omega (arith, e, rows_count n w) in
    let h : at.i < most_rows = omega (arith, e) in
    (search rules, rows_more (rows_of_words n w) (replicate most_rows 0) at.rows at.i c.from.result hw h at.invariant.1 (c.from.ensures ∙ sym (rows_word n w at.i)))

pub returns : goal.returns
unfolding qubits matrix
returns c =
    let at = c.loop-i in
    let s = c.args in
    let q = capped s.n in (
      search rules,
      ap (take (q + q)) at.invariant.1
          ∙ padded_rows (rows_of_words s.n s.words.now) most_rows (q + q) at.i (omega (arith, capped_le s.n)) (omega (arith, c.min-i-end.ensures, rows_count s.n s.words.now)),
    )
