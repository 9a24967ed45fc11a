-- `from_rows` writes the rows over zero rows, one by one, by `rows_more`.
use mathlib.Core.Path.{ap, ◌∙◌}
use Prim.Native.Nat.{◌+◌, ◌<◌}
use native.Mathlib.Omega.{arith}
use lib.ListN.{length, take, replicate}
use Rattle.blocks.specs.Words.{rows_in_lem}
use Rattle.symplectic.specs.Sizes.{most_rows, capped}
use Rattle.actions.specs.Actions.{qubits, matrix}
use Rattle.symplectic.proofs.Sizes.{capped_le}
use Rattle.actions.proofs.Arrays.{vals_replicate, rows_more, padded_rows}
use borrow.Author.Rules.{rules}
use Rattle.actions.proofs.from_rows.Goals as goal

pub loop-i-init : goal.loop-i-init
loop-i-init c = (search rules, vals_replicate most_rows c.zero-rows.result c.zero-rows.ensures)

pub loop-i-preserved : goal.loop-i-preserved
loop-i-preserved c =
    let at = c.loop-i in
    let rows = rows_in_lem c.args.w.now in
    let e = c.min-i-end.ensures in
    let hw : at.i < length rows = omega (arith, e, c.rows_in.ensures) in
    let h : at.i < most_rows = omega (arith, e) in
    (search rules, rows_more rows (replicate most_rows 0) at.rows at.i c.row.result hw h at.invariant.1 c.row.ensures)

pub returns : goal.returns
unfolding qubits matrix
returns c =
    let at = c.loop-i in
    let s = c.args in
    let q = capped s.n in (
      search rules,
      ap (take (q + q)) at.invariant.1
          ∙ padded_rows (rows_in_lem s.w.now) most_rows (q + q) at.i (omega (arith, capped_le s.n)) (omega (arith, c.min-i-end.ensures, c.rows_in.ensures)),
    )
