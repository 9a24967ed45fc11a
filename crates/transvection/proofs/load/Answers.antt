-- `load` puts the rows over others one by one, by `over_next` and `over_end`.
use mathlib.Core.Path.{◌≡◌, ◌∙◌, sym, ap}
use Prim.Native.Nat.{◌+◌, ◌<◌}
use native.Mathlib.Omega.{arith}
use lib.ListN.{length, take, length-take}
use lib.Seq.{get_or-take}
use Rattle.binar.specs.Rows.{val}
use Rattle.blocks.specs.Words.{rows_in_lem}
use Rattle.blocks.proofs.Values.{unmapped}
use Rattle.blocks.proofs.Overs.{over_next, over_end}
use Rattle.symplectic.specs.Sizes.{most_rows}
use Rattle.actions.specs.Actions.{qubits, matrix}
use Rattle.actions.proofs.Arrays.{qubits_le, matrix_get, matrix_length, qubits_capped}
use borrow.Author.Rules.{rules}
use Rattle.transvection.proofs.load.Goals as goal
use Rattle.transvection.proofs.load.Goals.{After-capped-n}

-- an action has two rows for each qubit
module _ (c : goal.After-capped-n) where
  qubits_is : c.capped-n.result ≡ qubits c.args.a
  qubits_is = c.capped-n.ensures ∙ sym (qubits_capped c.args.a)

  long : length c.args.a.rows ≡ most_rows
  long = search (rules, unmapped)

  size : length (matrix c.args.a) ≡ qubits c.args.a + qubits c.args.a
  size = matrix_length c.args.a long

  counted : length (take (c.capped-n.result + c.capped-n.result) c.args.a.rows) ≡ qubits c.args.a + qubits c.args.a
  counted = omega (arith, length-take (c.capped-n.result + c.capped-n.result) c.args.a.rows, long, qubits_is, qubits_le c.args.a)

pub overflow_add-row-items : goal.overflow_add-row-items
overflow_add-row-items c = omega (arith, qubits_is c, qubits_le c.args.a)

pub shared_ref_as_front-row-items : goal.shared_ref_as_front-row-items
shared_ref_as_front-row-items c = omega (arith, qubits_is (goal.at.shared_ref_as_front-row-items c).After-capped-n, qubits_le c.args.a)

pub loop-i-preserved : goal.loop-i-preserved
loop-i-preserved c =
    let s = c.args in
    let at = c.loop-i in
    let p = (goal.at.loop-i-preserved c).After-capped-n in
    let k = c.capped-n.result + c.capped-n.result in
    let h : at.i < qubits s.a + qubits s.a = omega (arith, counted p, c.loop-i-test.true) in
    c.put.ensures ∙ over_next (matrix s.a) (rows_in_lem s.w.now) (rows_in_lem at.w) at.i _ (omega (arith, size p)) (omega (arith, c.requires)) at.invariant (ap val (get_or-take k s.a.rows at.i _ (omega (arith, qubits_is p))) ∙ matrix_get s.a at.i h)

pub returns : goal.returns
returns c =
    let s = c.args in
    let at = c.loop-i in
    let p = (goal.at.returns c).After-capped-n in
    at.invariant ∙ over_end (matrix s.a) (rows_in_lem s.w.now) at.i (omega (arith, size p, counted p, c.requires))
