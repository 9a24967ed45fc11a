-- The lists of r entries whose product is an action are the triangular bases of the core.
-- Assumes nothing.
use mathlib.Core.Path.{◌≡◌, sym, ◌∙◌, subst, subst₂}
use mathlib.Core.Bool.{true}
use mathlib.Core.List.{List}
use Prim.Native.Nat.{ℕ, ◌+◌, ◌^◌, ◌<◌}
use lib.ListN.{length}
use Rattle.blocks.specs.Matrices.{units, All}
use Rattle.blocks.proofs.Units.{units_length}
use Rattle.linear.specs.Span.{InSpan}
use Rattle.linear.specs.Triangular.{Tri, Good}
use Rattle.linear.proofs.Instances.{𝕎}
use Rattle.symplectic.specs.Turns.{product, symplectic}
use Rattle.symplectic.proofs.Pairings.{𝕡}
use Rattle.symplectic.proofs.Layers.{residue_map}
use Rattle.symplectic.proofs.Wall.{product_of_good}
use Rattle.residue.specs.Residue.{basis, core, form}
use Rattle.residue.proofs.Core.{lift_sum}
use Rattle.residue.proofs.Forms.{form_of}
use Rattle.residue.proofs.Coordinates.{lift, core_wall, images_full, product_of_images}
use Rattle.residue.proofs.Lengths.{wall, good_of_list}
use Rattle.triangular.specs.Bases.{TriangularBasis}
use Rattle.triangular.proofs.Bases.{of_good}
use Rattle.triangular.proofs.Complete.{Is}
use Rattle.family.specs.Family.{times_basis}

module _ (n : ℕ) (F : List ℕ) (size : length F ≡ n + n) (symp : symplectic n F ≡ true) where
  r : ℕ
  r = length (basis n F)

  -- a list as long as the rank gives a triangular basis
  pub basis_of_list : (ws : List ℕ) → product n ws ≡ F → length (basis n F) ≡ length ws → TriangularBasis n F
  unfolding r
  basis_of_list ws e l = of_good n F good.list (good.tri, good.within, good.size)
    where
      good : Good (form (core n F)) (InSpan 𝕎 (units r)) r
      good = subst₂ (λ E d. Good E (InSpan 𝕎 (units r)) d) (core_wall n F size symp) (units_length r) (good_of_list n F size symp ws e l)

  -- T8: a triangular basis, each member times V, has the product F
  pub list_of_basis : All (λ f. f < 2 ^ (n + n)) F → (ps : List ℕ) → (let r = length (basis n F) in Is (form_of (core n F)) r (units r) ps) → product n (times_basis n F ps) ≡ F
  unfolding r
  list_of_basis bounded ps h =
      product_of_images n F size symp (λ p. p) ps
      (product_of_good 𝕎 (𝕡 n) (residue_map n F size symp) 𝕎 (lift n F) (lift_sum n F) (units r) (images_full n F size symp bounded) good)
    where
      good : Good (wall n F size symp) (InSpan 𝕎 (units r)) (length (units r))
      good = record {
        list = ps;
        tri = subst (λ E. Tri E ps) (sym (core_wall n F size symp)) h.0;
        within = h.1;
        size = h.2 ∙ sym (units_length r);
      }
