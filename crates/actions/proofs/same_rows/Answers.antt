-- `same_rows` compares the rows, by `compared_rows`; actions on different qubit counts differ by `rows_differ`.
use mathlib.Core.Path.{◌≡◌, ◌∙◌}
use Prim.Native.Nat.{◌+◌}
use native.Mathlib.Omega.{arith}
use borrow.Author.Tests.{ne_eqb}
use lib.ListN.{length}
use Rattle.blocks.proofs.Values.{unmapped}
use Rattle.symplectic.proofs.Matches.{rows_differ}
use Rattle.symplectic.proofs.Sizes.{capped_le}
use Rattle.actions.specs.Actions.{qubits, matrix}
use Rattle.actions.proofs.Arrays.{matrix_length, qubits_capped, compared_rows}
use borrow.Author.Rules.{rules}
use Rattle.actions.proofs.same_rows.Goals as goal

pub overflow_add-n : goal.overflow_add-n
overflow_add-n c = omega (arith, capped_le c.args.a.n, c.capped-n.ensures)

pub shared_ref_as_front-eq : goal.shared_ref_as_front-eq
shared_ref_as_front-eq c = omega (arith, capped_le c.args.a.n, c.capped-n.ensures)

pub returns-then-capped-n : goal.returns-then-capped-n
returns-then-capped-n c =
    c.eq.ensures ∙ compared_rows c.args.a c.args.b c.capped-n.result c.capped-n.ensures (omega (arith, c.capped.ensures))

pub returns-else-capped-n : goal.returns-else-capped-n
returns-else-capped-n c =
    let a = c.args.a in
    let b = c.args.b in
    let m : length (matrix a) ≡ qubits a + qubits a = matrix_length a (search (rules, unmapped)) in
    let k : length (matrix b) ≡ qubits b + qubits b = matrix_length b (search (rules, unmapped)) in
    ne_eqb c.capped.result c.capped-n.result c.if-capped-n.false
    ∙ rows_differ (matrix a) (matrix b) (λ e. c.if-capped-n.false (omega (arith, e, m, k, qubits_capped a, qubits_capped b, c.capped.ensures, c.capped-n.ensures)))
