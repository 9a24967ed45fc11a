-- `searched` lends the basis and the core, as many rows as the rank says, to `from_core`.
use mathlib.Core.Path.{◌≡◌, sym, ap₂, ◌∙◌}
use Prim.Native.Nat.{◌+◌}
use native.Mathlib.Omega.{arith}
use lib.ListN.{length, take, replicate}
use Rattle.blocks.specs.Words.{rows_in_lem}
use Rattle.blocks.proofs.Lent.{lent_front}
use Rattle.blocks.proofs.Overs.{over_front}
use Rattle.blocks.proofs.Values.{unmapped}
use Rattle.symplectic.specs.Sizes.{most_rows}
use Rattle.actions.specs.Actions.{qubits, matrix}
use Rattle.actions.proofs.Arrays.{qubits_le, matrix_length}
use Rattle.symplectic.proofs.Work.{room_in_lem}
use Rattle.residue.specs.Residue.{basis, core}
use Rattle.residue.proofs.Core.{core_length, basis_within, core_within}
use borrow.Author.Rules.{rules}
use Rattle.transvection_exact.proofs.searched.Goals as goal
use Rattle.transvection_exact.proofs.searched.Goals.{Start}

size : (c : goal.Start) → length (matrix c.args.a) ≡ qubits c.args.a + qubits c.args.a
size c = let long : length c.args.a.rows ≡ most_rows = search (rules, unmapped) in matrix_length c.args.a long

pub from_core-requires : goal.from_core-requires
from_core-requires c =
    let a = c.args.a in
    let n = qubits a in
    let F = matrix a in
    let r = c.residue_core-r in
    let b-few = basis_within n F (size (goal.at.from_core-requires c).Start) in
    let c-few = core_within n F (size (goal.at.from_core-requires c).Start) in
    let b-size : r.result ≡ length (basis n F) = r.ensures.ranked in
    let c-size : r.result ≡ length (core n F) = r.ensures.ranked ∙ sym (core_length n F) in (
      lent_front r.result c.start-b.result r.new.basis c.start-b.ensures ∙ ap₂ take b-size r.ensures.based
          ∙ over_front (basis n F) (rows_in_lem (replicate most_rows 0)) (room_in_lem most_rows (length (basis n F)) (omega (arith, b-few, qubits_le a))),
      lent_front r.result c.start-c.result r.new.core c.start-c.ensures ∙ ap₂ take c-size r.ensures.cored
          ∙ over_front (core n F) (rows_in_lem (replicate most_rows 0)) (room_in_lem most_rows (length (core n F)) (omega (arith, c-few, qubits_le a))),
      c.requires,
    )
