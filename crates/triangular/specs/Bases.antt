-- A triangular basis of the core of an action: what the search looks for.
-- Assumes nothing.
use Rattle.std.specs.Prelude.{List, ℕ, ◌^◌, ◌<◌, length}
use Rattle.linear.specs.Triangular.{Good}
use Rattle.residue.specs.Residue.{basis, core, form}

-- r vectors of r columns, each with pEp = 1, and with pEq = 0 for each later q
abbrev pub TriangularBasis : ℕ → List ℕ → Type 0
TriangularBasis n F = let r = length (basis n F) in Good (form (core n F)) (λ p. p < 2 ^ r) r
