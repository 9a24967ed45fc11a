-- `put_whole` puts the unit rows and the rows of the core over both, from the start.
use mathlib.Core.Path.{◌≡◌, refl, sym, ap, ap₂, ◌∙◌}
use Prim.Native.Nat.{min}
use native.Mathlib.Omega.{arith}
use lib.ListN.{length, take}
use lib.Seq.{length-take-le}
use Rattle.binar.specs.Rows.{width}
use Rattle.blocks.specs.Matrices.{units}
use Rattle.blocks.specs.Words.{rows_in_lem, over}
use Rattle.blocks.proofs.Overs.{over_front, over_length}
use Rattle.blocks.proofs.Units.{units_length}
use Rattle.family.proofs.space.Space.put_whole.Goals as goal
use Rattle.family.proofs.space.Space.put_whole.Goals.{After-put_front}

unit_rows : (c : After-put_front) → rows_in_lem c.put_units.new.w ≡ over (units c.args.self.now.d) (rows_in_lem c.args.self.now.basis)
unit_rows c =
    let a = c.args.self.now in
    let e : min a.d width ≡ a.d = omega (arith, a.narrow) in
    c.put_units.ensures ∙ ap (λ m. over (units m) (rows_in_lem a.basis)) e

pub invariant_of-self : goal.invariant_of-self
invariant_of-self c =
    let a = c.args.self.now in
    let at = (goal.at.invariant_of-self c).After-put_front in
    record {
      narrow = a.narrow;
      within = omega (arith, a.within, ap length (unit_rows at), over_length (units a.d) (rows_in_lem a.basis));
      beside = omega (arith, a.beside, ap length c.put_front.ensures, over_length (take a.d (rows_in_lem c.args.core.now)) (rows_in_lem a.forms));
    }

pub returns : goal.returns
returns c =
    let a = c.args.self.now in
    let core = rows_in_lem c.args.core.now in
    let at = (goal.at.returns c).After-put_front in
    let u = units_length a.d in
    let k = length-take-le a.d core c.requires in (
      refl,
      ap₂ take (sym u) (unit_rows at) ∙ over_front (units a.d) (rows_in_lem a.basis) (omega (arith, u, a.within)),
      ap₂ take (sym k) c.put_front.ensures ∙ over_front (take a.d core) (rows_in_lem a.forms) (omega (arith, k, a.beside)),
    )
