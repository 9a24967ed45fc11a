-- `residue_core_in` reduces the residue, all of it by `reduced_whole`, and puts the front of what is left, by `basis_end` and `core_end`.
use mathlib.Core.Path.{◌≡◌, sym, ap, ◌∙◌}
use mathlib.Core.List.{List}
use Prim.Native.Nat.{ℕ, ◌+◌, ◌≤◌, min}
use lib.ListN.{length, replicate, length-replicate}
use Rattle.binar.specs.Rows.{width}
use Rattle.blocks.specs.Words.{rows_in_lem, over}
use Rattle.blocks.proofs.Overs.{over_same}
use Rattle.blocks.proofs.Values.{unmapped}
use Rattle.symplectic.specs.Sizes.{most_rows}
use Rattle.actions.specs.Actions.{qubits, matrix}
use Rattle.actions.proofs.Arrays.{qubits_le, matrix_length, qubits_capped}
use Rattle.reduction.specs.Columns.{row_reduce_with_transform_lem}
use Rattle.reduction.specs.inner.Sweeps.{ReducedIn}
use Rattle.reduction.proofs.InPlace.{reduced_whole}
use Rattle.reduction.proofs.Parts.{rank_in_rows, rank_in_transform}
use Rattle.residue.specs.Residue.{residue}
use Rattle.residue.proofs.Core.{residue_length}
use Rattle.residue.proofs.Parts.{rank_wide, rank_end, basis_end, core_end}
use Rattle.blocks.proofs.Lent.{lent_same}
use native.Mathlib.Omega.{arith}
use borrow.Author.Rules.{rules}
use Rattle.residue.proofs.residue_core_in.Goals as goal
use Rattle.residue.proofs.residue_core_in.Goals.{After-capped-n, After-residue, After-row_reduce_with_transform-r, Start}

qubits_is : (c : goal.After-capped-n) → c.capped-n.result ≡ qubits c.args.a
qubits_is c = c.capped-n.ensures ∙ sym (qubits_capped c.args.a)

size : (c : goal.Start) → length (matrix c.args.a) ≡ qubits c.args.a + qubits c.args.a
size c = matrix_length c.args.a (search (rules, unmapped))

-- the rows are those of the residue
is : (c : goal.After-residue) → let a = c.args.a in rows_in_lem c.residue.new.w ≡ residue (qubits a) (matrix a)
is c =
    let a = c.args.a in
    c.residue.ensures ∙ over_same (residue (qubits a) (matrix a)) (rows_in_lem c.args.rows.now) (residue_length (qubits a) (matrix a) (size (goal.at.After-residue c).Start) ∙ sym c.requires.0)

-- and they are reduced, all of them
done : (c : goal.After-row_reduce_with_transform-r)
    → let n = c.capped-n.result in let M = rows_in_lem c.residue.new.w in let r = c.row_reduce_with_transform-r in
    ReducedIn (n + n) M r.result (rows_in_lem r.new.a) (rows_in_lem r.new.t) (row_reduce_with_transform_lem (n + n) M).pivots
done c =
    let s = c.args in
    let n = c.capped-n.result in
    let put = c.residue in
    let r = c.row_reduce_with_transform-r in
    let pivots : List ℕ = replicate most_rows 0 in
    let long = lent_same put.new.w s.rows.now put.auto.w ∙ c.requires.0 in
    let fits : length (rows_in_lem put.new.w) ≤ min width (min (length pivots) (length (rows_in_lem s.transform.now))) = omega (arith, long, qubits_le s.a, length-replicate {A = ℕ} most_rows 0, c.requires.1) in
    reduced_whole (n + n) _ (rows_in_lem s.transform.now) pivots fits r.result _ _ (long ∙ sym c.requires.1) r.ensures.ranked r.ensures.reduced r.ensures.transformed

pub overflow_add-n : goal.overflow_add-n
overflow_add-n c = omega (arith, qubits_is (goal.at.overflow_add-n c).After-capped-n, qubits_le c.args.a)

pub put_core-requires : goal.put_core-requires
put_core-requires c =
    let a = c.args.a in
    let p = c.row_reduce_with_transform-r.result in (
      rank_wide c.capped-n.result (qubits a) p (matrix a) _ _ _ _ (size (goal.at.put_core-requires c).Start) (qubits_le a) (qubits_is (goal.at.put_core-requires c).After-capped-n) (is (goal.at.put_core-requires c).After-residue) (done (goal.at.put_core-requires c).After-row_reduce_with_transform-r),
      rank_in_rows (c.capped-n.result + c.capped-n.result) p _ _ _ _ (done (goal.at.put_core-requires c).After-row_reduce_with_transform-r),
      rank_in_transform (c.capped-n.result + c.capped-n.result) p _ _ _ _ (done (goal.at.put_core-requires c).After-row_reduce_with_transform-r),
    )

pub returns : goal.returns
returns c =
    let s = c.args in
    let a = s.a in
    let p = c.row_reduce_with_transform-r.result in
    let rank = rank_end c.capped-n.result (qubits a) p (matrix a) _ _ _ _ (size (goal.at.returns c).Start) (qubits_le a) (qubits_is (goal.at.returns c).After-capped-n) (is (goal.at.returns c).After-residue) (done (goal.at.returns c).After-row_reduce_with_transform-r) in
    let basis = basis_end c.capped-n.result (qubits a) p (matrix a) _ _ _ _ (size (goal.at.returns c).Start) (qubits_le a) (qubits_is (goal.at.returns c).After-capped-n) (is (goal.at.returns c).After-residue) (done (goal.at.returns c).After-row_reduce_with_transform-r) in
    let core = core_end c.capped-n.result (qubits a) p (matrix a) _ _ _ _ (size (goal.at.returns c).Start) (qubits_le a) (qubits_is (goal.at.returns c).After-capped-n) (is (goal.at.returns c).After-residue) (done (goal.at.returns c).After-row_reduce_with_transform-r) in
    let based = c.put_front.ensures ∙ ap (λ (l : List ℕ). over l (rows_in_lem s.basis.now)) basis in record {
      ranked = rank;
      based = based;
      cored = c.put_core.ensures ∙ ap (λ (l : List ℕ). over l (rows_in_lem s.core.now)) core;
    }
