-- A triangular basis of the core is a good basis of the space of unit vectors, and back.
-- Assumes nothing.
use mathlib.Core.List.{List}
use Prim.Native.Nat.{ℕ}
use lib.ListN.{length}
use Rattle.blocks.specs.Matrices.{units}
use Rattle.blocks.proofs.All.{All-map}
use Rattle.blocks.proofs.Units.{units_lt}
use Rattle.linear.proofs.Rows.{units_span, span_lt}
use Rattle.residue.specs.Residue.{basis, core}
use Rattle.residue.proofs.Forms.{form_of}
use Rattle.triangular.specs.Bases.{TriangularBasis}
use Rattle.triangular.proofs.Complete.{Is}

module _ (n : ℕ) (F : List ℕ) where
  pub of_good : (ps : List ℕ) → (let r = length (basis n F) in Is (form_of (core n F)) r (units r) ps) → TriangularBasis n F
  of_good ps h =
      let r = length (basis n F) in
      record { list = ps; tri = h.0; within = All-map (λ p k. span_lt r (units r) (units_lt r) p k) ps h.1; size = h.2 }

  pub to_good : (g : TriangularBasis n F) → (let r = length (basis n F) in Is (form_of (core n F)) r (units r) g.list)
  to_good g = let r = length (basis n F) in (g.tri, All-map (λ p k. units_span r p k) g.list g.within, g.size)
