-- `residue` puts the rows of I + F from the lower half on, by `residue_over`.
use mathlib.Core.Path.{◌≡◌, sym, ◌∙◌}
use Rattle.actions.specs.Actions.{qubits, matrix}
use Rattle.actions.proofs.Arrays.{qubits_capped}
use Rattle.residue.proofs.Parts.{residue_over}
use native.Mathlib.Omega.{arith}
use Rattle.residue.proofs.residue.Goals as goal
use Rattle.residue.proofs.residue.Goals.{After-capped}

qubits_is : (c : goal.After-capped) → c.capped.result ≡ qubits c.args.a
qubits_is c = c.capped.ensures ∙ sym (qubits_capped c.args.a)

pub put_plus-requires : goal.put_plus-requires
put_plus-requires c = omega (arith, qubits_is (goal.at.put_plus-requires c).After-capped)

pub returns : goal.returns
returns c =
    let a = c.args.a in
    residue_over (qubits a) (matrix a) _ _ _ c.put_plus.ensures (qubits_is (goal.at.returns c).After-capped)
