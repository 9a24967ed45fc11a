-- `is_self_inverse` lends local words that have room for the rows of an action: I + F, of which the test tells, by `squares_to_zero`.
use mathlib.Core.Path.{◌≡◌, sym, ap, ◌∙◌}
use mathlib.Core.List.{List, ◌++◌}
use Prim.Native.Nat.{ℕ, ◌+◌, ◌≤◌}
use lib.Dec.{eqb}
use lib.ListN.{length, take, drop, replicate}
use lib.Seq.{take_at}
use Rattle.blocks.specs.Matrices.{times}
use Rattle.blocks.specs.Words.{rows_in_lem}
use Rattle.blocks.proofs.Overs.{over_same}
use Rattle.blocks.proofs.Values.{unmapped}
use Rattle.symplectic.specs.Sizes.{most_rows}
use Rattle.symplectic.specs.Turns.{identity_plus}
use Rattle.std.specs.List.{list_all}
use Rattle.actions.specs.Actions.{qubits, matrix}
use Rattle.actions.proofs.Arrays.{qubits_le, qubits_capped, matrix_length}
use Rattle.reduction.proofs.Words.{lent_count, lent_rows}
use Rattle.residue.proofs.Parts.{plus_length}
use Rattle.self_inverse.proofs.Squares.{squares_to_zero}
use native.Mathlib.Omega.{arith}
use borrow.Author.Rules.{rules}
use Rattle.self_inverse.proofs.is_self_inverse.Goals as goal
use Rattle.self_inverse.proofs.is_self_inverse.Goals.{After-capped-n, After-put_identity_plus, After-start-to, Start}

size : (c : goal.Start) → length (matrix c.args.a) ≡ qubits c.args.a + qubits c.args.a
size c = matrix_length c.args.a (search (rules, unmapped))

count : (c : goal.After-capped-n) → c.capped-n.result ≡ qubits c.args.a
count c = c.capped-n.ensures ∙ sym (qubits_capped c.args.a)

-- the array has room for the rows of an action
fits : (c : goal.After-capped-n) → c.capped-n.result + c.capped-n.result ≤ most_rows
fits c = omega (arith, count c, qubits_le c.args.a)

-- as many of them are lent
long : (c : goal.After-start-to) → let n = c.capped-n.result in length (rows_in_lem (take c.start-to.result (replicate most_rows 0))) ≡ n + n
long c =
    let n = c.capped-n.result in
    lent_rows (n + n) most_rows c.start-to.result c.start-to.ensures (fits (goal.at.After-start-to c).After-capped-n)

-- and they are the rows of I + F
is : (c : goal.After-put_identity_plus)
    → let a = c.args.a in let to = c.start-to.result in
    rows_in_lem (take to (c.put_identity_plus.new.w ++ drop to (replicate most_rows 0))) ≡ identity_plus (qubits a) (matrix a)
is c =
    let n = c.capped-n.result in
    let a = c.args.a in
    let to = c.start-to.result in
    let o = c.put_identity_plus in
    let words : List ℕ = replicate most_rows 0 in
    ap (λ (l : List ℕ). rows_in_lem l) (take_at o.new.w (drop to words) to (o.auto.w ∙ sym (lent_count (n + n) most_rows to c.start-to.ensures)))
    ∙ o.ensures ∙ over_same (identity_plus (qubits a) (matrix a)) (rows_in_lem (take to words)) (plus_length (qubits a) (matrix a) (size (goal.at.After-put_identity_plus c).Start) ∙ sym (long (goal.at.After-put_identity_plus c).After-start-to ∙ ap (λ (k : ℕ). k + k) (count (goal.at.After-put_identity_plus c).After-capped-n)))

pub overflow_add-n : goal.overflow_add-n
overflow_add-n c = omega (arith, fits (goal.at.overflow_add-n c).After-capped-n)

pub returns : goal.returns
returns c =
    let a = c.args.a in
    c.squares_to_zero.ensures ∙ ap (λ (P : List ℕ). list_all (λ v. eqb (times v P) 0) P) (is (goal.at.returns c).After-put_identity_plus)
    ∙ squares_to_zero (qubits a) (matrix a) (size (goal.at.returns c).Start) c.requires
