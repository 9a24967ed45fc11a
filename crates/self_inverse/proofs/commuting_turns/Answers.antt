-- `commuting_turns` lends local words that have room for the rows of an action: its residue, which is taken apart.
use mathlib.Core.Path.{◌≡◌, sym, ap, ◌∙◌, subst}
use mathlib.Core.List.{List, ◌++◌}
use Prim.Native.Nat.{ℕ, ◌+◌, ◌≤◌}
use lib.ListN.{length, take, drop, replicate}
use lib.Seq.{take_at}
use Rattle.blocks.specs.Words.{rows_in_lem}
use Rattle.blocks.proofs.Overs.{over_same}
use Rattle.blocks.proofs.Values.{unmapped}
use Rattle.symplectic.specs.Sizes.{most_rows}
use Rattle.actions.specs.Actions.{qubits, matrix}
use Rattle.actions.proofs.Arrays.{qubits_le, qubits_capped, matrix_length}
use Rattle.reduction.proofs.Words.{lent_count, lent_rows}
use Rattle.residue.specs.Residue.{residue}
use Rattle.residue.proofs.Core.{residue_length}
use Rattle.self_inverse.specs.inner.Peels.{SymmetricSquare, Decomposed}
use native.Mathlib.Omega.{arith}
use borrow.Author.Rules.{rules}
use Rattle.self_inverse.proofs.commuting_turns.Goals as goal
use Rattle.self_inverse.proofs.commuting_turns.Goals.{After-capped-n, After-residue, After-start-to, Start}

size : (c : goal.Start) → length (residue (qubits c.args.a) (matrix c.args.a)) ≡ qubits c.args.a + qubits c.args.a
size c = residue_length (qubits c.args.a) (matrix c.args.a) (matrix_length c.args.a (search (rules, unmapped)))

count : (c : goal.After-capped-n) → c.capped-n.result ≡ qubits c.args.a
count c = c.capped-n.ensures ∙ sym (qubits_capped c.args.a)

-- the array has room for the rows of an action
fits : (c : goal.After-capped-n) → c.capped-n.result + c.capped-n.result ≤ most_rows
fits c = omega (arith, count c, qubits_le c.args.a)

-- as many of them are lent
long : (c : goal.After-start-to) → let n = c.capped-n.result in length (rows_in_lem (take c.start-to.result (replicate most_rows 0))) ≡ n + n
long c =
    let n = c.capped-n.result in
    lent_rows (n + n) most_rows c.start-to.result c.start-to.ensures (fits (goal.at.After-start-to c).After-capped-n)

-- and they are the rows of the residue
is : (c : goal.After-residue)
    → let a = c.args.a in let to = c.start-to.result in
    rows_in_lem (take to (c.residue.new.w ++ drop to (replicate most_rows 0))) ≡ residue (qubits a) (matrix a)
is c =
    let n = c.capped-n.result in
    let a = c.args.a in
    let to = c.start-to.result in
    let o = c.residue in
    let words : List ℕ = replicate most_rows 0 in
    ap (λ (l : List ℕ). rows_in_lem l) (take_at o.new.w (drop to words) to (o.auto.w ∙ sym (lent_count (n + n) most_rows to c.start-to.ensures)))
    ∙ o.ensures ∙ over_same (residue (qubits a) (matrix a)) (rows_in_lem (take to words)) (size (goal.at.After-residue c).Start ∙ sym (long (goal.at.After-residue c).After-start-to ∙ ap (λ (k : ℕ). k + k) (count (goal.at.After-residue c).After-capped-n)))

pub overflow_add-n : goal.overflow_add-n
overflow_add-n c = omega (arith, fits (goal.at.overflow_add-n c).After-capped-n)

pub decompose-requires : goal.decompose-requires
decompose-requires c =
    let e = is (goal.at.decompose-requires c).After-residue in (
      record {
        square = subst SymmetricSquare (sym e) c.requires.0;
        narrow = omega (arith, ap length e, size (goal.at.decompose-requires c).Start, qubits_le c.args.a);
      },
      c.requires.1,
    )

pub returns : goal.returns
returns c =
    let o = c.decompose in
    subst (λ (M : List ℕ). Decomposed M o.new.list) (is (goal.at.returns c).After-residue) o.ensures
