-- `put_plus` puts the rows of I + F one by one, by `plus_from_at`, as far as there is room.
use mathlib.Core.Path.{◌≡◌, sym, ap, ap₂, ◌∙◌}
use Prim.Native.Nat.{ℕ, ◌+◌, ◌<◌, min}
use lib.ListN.{length}
use Rattle.binar.specs.Bits.{◌⊕◌}
use Rattle.binar.proofs.Ones.{unit_is}
use Rattle.blocks.specs.Words.{rows_in_lem}
use Rattle.blocks.proofs.Overs.{over_next, over_end}
use Rattle.blocks.proofs.Values.{unmapped}
use Rattle.actions.specs.Actions.{qubits, matrix}
use Rattle.actions.proofs.Arrays.{qubits_le, qubits_capped, matrix_length, matrix_get}
use Rattle.residue.proofs.Parts.{plus_from_length, plus_from_at}
use native.Mathlib.Omega.{arith}
use borrow.Author.Rules.{rules}
use Rattle.residue.proofs.put_plus.Goals as goal
use Rattle.residue.proofs.put_plus.Goals.{Start, After-capped-n}
use Rattle.residue.proofs.put_plus.Invariants.{from}

size : (c : goal.Start) → length (matrix c.args.a) ≡ qubits c.args.a + qubits c.args.a
size c = matrix_length c.args.a (search (rules, unmapped))

qubits_is : (c : goal.After-capped-n) → c.capped-n.result ≡ qubits c.args.a
qubits_is c = c.capped-n.ensures ∙ sym (qubits_capped c.args.a)

pub overflow_add-m : goal.overflow_add-m
overflow_add-m c = omega (arith, qubits_is (goal.at.overflow_add-m c).After-capped-n, qubits_le c.args.a)

pub rotated-j-requires : goal.rotated-j-requires
rotated-j-requires c =
    let e = qubits_is (goal.at.rotated-j-requires c).After-capped-n in
    (omega (arith, c.min-count.ensures), omega (arith, e, c.requires), omega (arith, e, qubits_le c.args.a))

pub offset_bounds-a-j : goal.offset_bounds-a-j
offset_bounds-a-j c = omega (arith, c.rotated-j.ensures.0, qubits_is (goal.at.offset_bounds-a-j c).After-capped-n, qubits_le c.args.a)

pub bounds-a-j : goal.bounds-a-j
bounds-a-j c = omega (arith, c.rotated-j.ensures.0, qubits_is (goal.at.bounds-a-j c).After-capped-n, qubits_le c.args.a)

pub loop-i-preserved : goal.loop-i-preserved
loop-i-preserved c =
    let at = c.loop-i in
    let s = c.args in
    let a = s.a in
    let o = c.rotated-j in
    let j = o.result in
    let m = c.capped-n.result + c.capped-n.result in
    let e : m ≡ qubits a + qubits a = ap (λ (n : ℕ). n + n) (qubits_is (goal.at.loop-i-preserved c).After-capped-n) in
    let h : j < qubits a + qubits a = omega (arith, o.ensures.0, e) in
    let count : at.i < min m (length (rows_in_lem s.w.now)) = omega (arith, c.min-count.ensures, c.rows_in.ensures) in
    c.put.ensures
    ∙ over_next (from s.k a) (rows_in_lem s.w.now) (rows_in_lem at.w) at.i _ (omega (arith, plus_from_length (qubits a) (matrix a) (size (goal.at.loop-i-preserved c).Start) s.k, e, count))
    (omega (arith, count)) at.invariant
    (c.bitxor.ensures ∙ ap₂ ◌⊕◌ (matrix_get a j h) (c.unit.ensures ∙ unit_is j (omega (arith, h, qubits_le a)))
    ∙ plus_from_at (qubits a) (matrix a) (size (goal.at.loop-i-preserved c).Start) s.k at.i j h (λ l q. o.ensures.1 l (q ∙ sym e)))

pub returns : goal.returns
returns c =
    let at = c.loop-i in
    let s = c.args in
    let a = s.a in
    let long = plus_from_length (qubits a) (matrix a) (size (goal.at.returns c).Start) s.k in
    at.invariant ∙ over_end (from s.k a) (rows_in_lem s.w.now) at.i (omega (arith, long, qubits_is (goal.at.returns c).After-capped-n, c.min-count.ensures, c.rows_in.ensures))
