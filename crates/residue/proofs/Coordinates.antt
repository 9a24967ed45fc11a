-- What an action adds, in coordinates: a vector p of r columns stands for p times V. In them the core is the Wall form.
-- Assumes nothing.
use mathlib.Core.Path.{◌≡◌, sym, ap, ◌∙◌, subst, fun_ext}
use mathlib.Core.Bool.{true}
use mathlib.Core.List.{List, map}
use Prim.Native.Nat.{ℕ, ◌+◌, ◌^◌, ◌<◌}
use lib.ListN.{length}
use Rattle.blocks.specs.Matrices.{times, units, All}
use Rattle.blocks.proofs.Units.{times_units}
use Rattle.linear.specs.Span.{InSpan, Indep}
use Rattle.linear.proofs.Instances.{𝕎}
use Rattle.symplectic.specs.Turns.{pairing, product, symplectic}
use Rattle.symplectic.specs.inner.Vectors.{swap_halves_lem}
use Rattle.symplectic.proofs.Pairings.{𝕡}
use Rattle.symplectic.proofs.Transvections.{act}
use Rattle.symplectic.proofs.Products.{run_is_act}
use Rattle.symplectic.proofs.Layers.{added, residue_map, product_of_adds}
use Rattle.symplectic.proofs.Wall.{φ, core as wall_form, Adds}
use Rattle.residue.specs.Residue.{basis, transform, core, form}
use Rattle.residue.proofs.Core.{lift_sum, basis_indep, basis_is, core_is, full}

-- a vector to which F adds p times V
abbrev pub lift : ℕ → List ℕ → ℕ → ℕ
lift n F p = swap_halves_lem n (times p (transform n F))

module _ (n : ℕ) (F : List ℕ) (size : length F ≡ n + n) (symp : symplectic n F ≡ true) where
  -- what F adds to that
  abbrev pub image : ℕ → ℕ
  image = φ 𝕎 (𝕡 n) (residue_map n F size symp) 𝕎 (lift n F) (lift_sum n F)

  pub image_is : (p : ℕ) → image p ≡ times p (basis n F)
  image_is = basis_is n F size

  images : {A : Type 0} (f : A → ℕ) (l : List A) → map (λ a. image (f a)) l ≡ map (λ a. times (f a) (basis n F)) l
  images f l = ap (λ g. map g l) (fun_ext (λ a. image_is (f a)))

  units_images : map image (units (length (basis n F))) ≡ basis n F
  units_images = images (λ p. p) (units (length (basis n F))) ∙ times_units (basis n F)

  -- T5: the core is the Wall form in coordinates
  pub core_wall : wall_form 𝕎 (𝕡 n) (residue_map n F size symp) 𝕎 (lift n F) (lift_sum n F) ≡ form (core n F)
  core_wall = fun_ext (λ p. fun_ext (λ q. ap (λ t. pairing n t (lift n F q)) (image_is p) ∙ core_is n F size p q))

  pub images_indep : Indep 𝕎 (map image (units (length (basis n F))))
  images_indep = subst (Indep 𝕎) (sym units_images) (basis_indep n F)

  pub images_full : All (λ f. f < 2 ^ (n + n)) F → (z : ℕ) → InSpan 𝕎 (map image (units (length (basis n F)))) (added n F z)
  images_full bounded z = subst (λ l. InSpan 𝕎 l (added n F z)) (sym units_images) (full n F size bounded z)

  -- a list whose images add what F adds has the product F
  pub product_of_images : {A : Type 0} (f : A → ℕ) (l : List A) → Adds 𝕎 (𝕡 n) (residue_map n F size symp) 𝕎 (lift n F) (lift_sum n F) (map (λ a. image (f a)) l)
      → product n (map (λ a. times (f a) (basis n F)) l) ≡ F
  product_of_images f l adds =
      let vs = map (λ a. times (f a) (basis n F)) l in
      product_of_adds n F size vs (λ z. run_is_act n vs z ∙ ap (λ m. act 𝕎 (𝕡 n) m z) (sym (images f l)) ∙ adds z)
