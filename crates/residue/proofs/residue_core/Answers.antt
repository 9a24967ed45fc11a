-- `residue_core` lends local words that have room for the rows of an action.
use mathlib.Core.Path.{ap, ◌∙◌, ◌≡◌, sym}
use Prim.Native.Nat.{ℕ, ◌+◌, ◌≤◌}
use Rattle.symplectic.specs.Sizes.{most_rows}
use Rattle.actions.proofs.Arrays.{qubits_le, qubits_capped}
use Rattle.reduction.proofs.Words.{lent_rows}
use native.Mathlib.Omega.{arith}
use Rattle.actions.specs.Actions.{qubits}
use Rattle.residue.proofs.residue_core.Goals as goal
use Rattle.residue.proofs.residue_core.Goals.{After-capped-n}

qubits_is : (c : goal.After-capped-n) → c.capped-n.result ≡ qubits c.args.a
qubits_is c = c.capped-n.ensures ∙ sym (qubits_capped c.args.a)

-- the arrays have room for the rows of an action
fits : (c : goal.After-capped-n) → c.capped-n.result + c.capped-n.result ≤ most_rows
fits c = omega (arith, qubits_is c, qubits_le c.args.a)

pub overflow_add-n : goal.overflow_add-n
overflow_add-n c = omega (arith, fits (goal.at.overflow_add-n c).After-capped-n)

pub residue_core_in-requires : goal.residue_core_in-requires
residue_core_in-requires c =
    let to = c.start-to in
    let long = lent_rows (c.capped-n.result + c.capped-n.result) most_rows to.result to.ensures (fits (goal.at.residue_core_in-requires c).After-capped-n) ∙ ap (λ (m : ℕ). m + m) (qubits_is (goal.at.residue_core_in-requires c).After-capped-n) in
    (long, long)
