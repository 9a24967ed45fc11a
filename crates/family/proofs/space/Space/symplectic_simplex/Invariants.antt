-- `symplectic_simplex` puts the vectors of pair after pair behind those in front, and the last sum at the end, by the laws of Simplices.
use mathlib.Core.Path.{◌≡◌}
use mathlib.Core.List.{List}
use mathlib.Core.Option.{Option}
use Prim.Native.Nat.{ℕ, ◌+◌}
use lib.ListN.{length, take}
use Rattle.binar.specs.Rows.{val}
use Rattle.blocks.specs.Words.{rows_in_lem}
use Rattle.residue.specs.Residue.{form}
use Rattle.symplectic.specs.Picks.{map_some}
use Rattle.family.specs.declared.space.Space.{Space}
use Rattle.family.specs.Family.{symplectic_simplex_lem}
use Rattle.family.specs.inner.Parts.{members, Fits, behind}
use Rattle.family.proofs.Simplices.{Owed}
use Rattle.family.proofs.space.Space.symplectic_simplex.Given as goal

-- the vectors in front, and the simplex behind them
abbrev pub whole : List ℕ → Space → ℕ → List ℕ → Option (List ℕ)
whole E space n l = map_some (behind (take n l)) (symplectic_simplex_lem (form E) space.d (members space))

abbrev pub invariant-loop-self : goal.invariant-loop-self
invariant-loop-self l = (l.n + l.self.d ≡ l.front + l.initial.self.d) × (length (rows_in_lem l.list) ≡ length (rows_in_lem l.initial.list))
    × ((E : List ℕ) → Fits E l.initial.self → Fits E l.self
    × Owed (form E) (whole E l.initial.self l.front (rows_in_lem l.initial.list)) (take l.n (rows_in_lem l.list)) (val l.s) (members l.self))

abbrev pub decreases-loop-self : goal.decreases-loop-self
decreases-loop-self l = l.self.d
