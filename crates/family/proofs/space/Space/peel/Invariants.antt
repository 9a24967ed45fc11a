-- `peel` puts a vector into the list while a member is dropped for it, by `turn_peeled`, and ends in the simplex of the rest, by `family_rest`.
use mathlib.Core.Path.{◌≡◌}
use mathlib.Core.List.{List}
use mathlib.Core.Option.{Option}
use Prim.Native.Nat.{ℕ, ◌+◌}
use lib.ListN.{length, take}
use Rattle.blocks.specs.Words.{rows_in_lem}
use Rattle.residue.specs.Residue.{form}
use Rattle.symplectic.specs.Picks.{map_some}
use Rattle.family.specs.declared.space.Space.{Space}
use Rattle.family.specs.inner.Parts.{members, Fits}
use Rattle.family.specs.Family.{bordered_family_lem, vectors}
use Rattle.family.proofs.Peeling.{Left}
use Rattle.family.proofs.space.Space.peel.Given as goal

-- the vectors of a space's family
abbrev pub family_of : List ℕ → Space → Option (List ℕ)
family_of E space = map_some vectors (bordered_family_lem (form E) space.d (members space))

abbrev pub invariant-loop-p : goal.invariant-loop-p
invariant-loop-p l = (l.peeled + l.self.d ≡ l.initial.self.d) × (length (rows_in_lem l.list) ≡ length (rows_in_lem l.initial.list))
    × ((E : List ℕ) → Fits E l.initial.self → Fits E l.self
    × Left (form E) (family_of E l.initial.self) (take l.peeled (rows_in_lem l.list)) (members l.self))

abbrev pub decreases-loop-p : goal.decreases-loop-p
decreases-loop-p l = l.self.d
