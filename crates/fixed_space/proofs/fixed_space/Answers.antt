-- `fixed_space` lends local words that have room for the rows of an action: I + F, whose kernel is the fixed space, by `fixed_is`.
use mathlib.Core.Path.{◌≡◌, refl, sym, ap, ap₂, ◌∙◌}
use mathlib.Core.List.{List, ◌++◌}
use Prim.Native.Nat.{ℕ, ◌+◌, ◌≤◌}
use lib.ListN.{length, take, drop, replicate}
use lib.Seq.{take_at}
use Rattle.blocks.specs.Words.{rows_in_lem, laid}
use Rattle.blocks.proofs.Lent.{lent_same}
use Rattle.blocks.proofs.Overs.{over_same}
use Rattle.blocks.proofs.Values.{unmapped}
use Rattle.symplectic.specs.Sizes.{most_rows}
use Rattle.symplectic.specs.Turns.{identity_plus}
use Rattle.actions.specs.Actions.{qubits, matrix}
use Rattle.actions.proofs.Arrays.{qubits_le, qubits_capped, matrix_length}
use Rattle.reduction.proofs.Words.{lent_count, lent_rows, left_count}
use Rattle.residue.proofs.Parts.{plus_length}
use Rattle.fixed_space.proofs.Parts.{fixed_is}
use native.Mathlib.Omega.{arith}
use borrow.Author.Rules.{rules}
use Rattle.fixed_space.proofs.fixed_space.Goals as goal
use Rattle.fixed_space.proofs.fixed_space.Goals.{After-capped-n, After-put_identity_plus, After-start-to}

count : (c : goal.After-capped-n) → c.capped-n.result ≡ qubits c.args.a
count c = c.capped-n.ensures ∙ sym (qubits_capped c.args.a)

-- the arrays have room for the rows of an action
fits : (c : goal.After-capped-n) → c.capped-n.result + c.capped-n.result ≤ most_rows
fits c = omega (arith, count c, qubits_le c.args.a)

-- as many of them are lent
long : (c : goal.After-start-to) → let n = c.capped-n.result in length (rows_in_lem (take c.start-to.result (replicate most_rows 0))) ≡ n + n
long c =
    let n = c.capped-n.result in
    lent_rows (n + n) most_rows c.start-to.result c.start-to.ensures (fits (goal.at.After-start-to c).After-capped-n)

-- and they are the rows of I + F
is : (c : goal.After-put_identity_plus)
    → let a = c.args.a in let to = c.start-to.result in
    rows_in_lem (take to (c.put_identity_plus.new.w ++ drop to (replicate most_rows 0))) ≡ identity_plus (qubits a) (matrix a)
is c =
    let n = c.capped-n.result in
    let a = c.args.a in
    let to = c.start-to.result in
    let o = c.put_identity_plus in
    let words : List ℕ = replicate most_rows 0 in
    let size = plus_length (qubits a) (matrix a) (matrix_length a (search (rules, unmapped))) in
    ap (λ (l : List ℕ). rows_in_lem l) (take_at o.new.w (drop to words) to (o.auto.w ∙ sym (lent_count (n + n) most_rows to c.start-to.ensures)))
    ∙ o.ensures ∙ over_same (identity_plus (qubits a) (matrix a)) (rows_in_lem (take to words)) (size ∙ sym (long (goal.at.After-put_identity_plus c).After-start-to ∙ ap (λ (k : ℕ). k + k) (count (goal.at.After-put_identity_plus c).After-capped-n)))

pub overflow_add-m : goal.overflow_add-m
overflow_add-m c = omega (arith, fits c)

pub lay_kernel-requires : goal.lay_kernel-requires
lay_kernel-requires c =
    let n = c.capped-n.result in
    let to = c.start-to in
    let o = c.put_identity_plus in
    let part = sym (left_count (n + n) most_rows to.result to.ensures o.new.w o.auto.w) ∙ lent_count (n + n) most_rows to.result to.ensures in
    let same = lent_same _ (take to.result (replicate most_rows 0)) part in
    (same, omega (arith, same, long (goal.at.lay_kernel-requires c).After-start-to, fits (goal.at.lay_kernel-requires c).After-capped-n))

pub returns : goal.returns
returns c =
    let s = c.args in
    let o = c.lay_kernel in
    let e = count (goal.at.returns c).After-capped-n in
    let m = c.capped-n.result + c.capped-n.result in
    let same = fixed_is (qubits s.a) m (matrix s.a) _ _ (ap (λ (k : ℕ). k + k) e) (is (goal.at.returns c).After-put_identity_plus) refl in record {
      counted = o.ensures.counted ∙ ap length same;
      laid = o.ensures.laid ∙ ap₂ (λ (k : ℕ) (l : List ℕ). laid k l s.out.now) e same;
    }
