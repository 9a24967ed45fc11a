-- The lengths of lists whose product is an action: none is below the rank r, and one of r entries gives a triangular list of the Wall form.
-- Assumes nothing.
use mathlib.Core.Path.{◌≡◌, sym, ◌∙◌}
use mathlib.Core.Bool.{Bool, true}
use mathlib.Core.List.{List}
use Prim.Native.Nat.{ℕ, ◌+◌}
use lib.ListN.{length}
use Rattle.binar.specs.Bits.{◌⊕◌}
use Rattle.blocks.specs.Matrices.{units}
use Rattle.blocks.proofs.Units.{units_length}
use Rattle.linear.specs.Span.{InSpan}
use Rattle.linear.specs.Triangular.{Good}
use Rattle.linear.proofs.Instances.{𝕎}
use Rattle.symplectic.specs.Turns.{product, symplectic}
use Rattle.symplectic.specs.NoneShorter.{NoneShorter}
use Rattle.symplectic.proofs.Pairings.{𝕡}
use Rattle.symplectic.proofs.Transvections.{act}
use Rattle.symplectic.proofs.Products.{run_is_act}
use Rattle.symplectic.proofs.Layers.{added, residue_map, adds_of_product}
use Rattle.symplectic.proofs.Wall.{core as wall_form, at_least, good_of_shortest}
use Rattle.residue.specs.Residue.{basis}
use Rattle.residue.proofs.Core.{lift_sum}
use Rattle.residue.proofs.Coordinates.{lift, images_indep}

module _ (n : ℕ) (F : List ℕ) (size : length F ≡ n + n) (symp : symplectic n F ≡ true) where
  adds : (ws : List ℕ) → product n ws ≡ F → (z : ℕ) → act 𝕎 (𝕡 n) ws z ≡ z ⊕ added n F z
  adds ws e z = sym (run_is_act n ws z) ∙ adds_of_product n F ws e z

  -- T6: no list is shorter than the rank
  pub none_below_rank : NoneShorter n F (length (basis n F))
  none_below_rank ws fits e =
      rw units_length at (at_least 𝕎 (𝕡 n) (residue_map n F size symp) 𝕎 (lift n F) (lift_sum n F) (units (length (basis n F))) (images_indep n F size symp) ws (adds ws e))

  -- the Wall form in coordinates
  abbrev pub wall : ℕ → ℕ → Bool
  wall = wall_form 𝕎 (𝕡 n) (residue_map n F size symp) 𝕎 (lift n F) (lift_sum n F)

  -- T7: a list as long as the rank gives a triangular one
  pub good_of_list : (ws : List ℕ) → product n ws ≡ F → length (basis n F) ≡ length ws → let r = length (basis n F) in Good wall (InSpan 𝕎 (units r)) (length (units r))
  good_of_list ws e l =
      let r = length (basis n F) in
      good_of_shortest 𝕎 (𝕡 n) (residue_map n F size symp) 𝕎 (lift n F) (lift_sum n F) (units r) (images_indep n F size symp) ws (adds ws e) (units_length r ∙ l)
