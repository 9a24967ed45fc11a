-- A self-inverse action is its own adjoint: what it adds to two vectors pairs to 0, and its residue is a symmetric matrix.
-- Assumes nothing.
use mathlib.Core.Path.{◌≡◌, sym, ap, ap₂, ◌∙◌, subst}
use mathlib.Core.Bool.{true, false}
use mathlib.Core.List.{List}
use Prim.Native.Nat.{ℕ, ◌+◌, ◌*◌, ◌/◌, ◌%◌, ◌^◌, ◌<◌}
use native.Mathlib.Nat.{mod-lt, mod-eq_of_lt}
use lib.Pow.{pow_pos}
use lib.ListN.{length}
use Rattle.binar.specs.Bits.{◌⊻◌, dot, ◌⊕◌}
use Rattle.binar.proofs.Sums.{bxor_self, by_parts, zero_sum}
use Rattle.binar.proofs.Dots.{dot_comm, dot_sum}
use Rattle.blocks.specs.Matrices.{times, matmul, units, All}
use Rattle.blocks.proofs.Products.{times_low, times_matmul}
use Rattle.symplectic.specs.Turns.{pairing, symplectic}
use Rattle.symplectic.specs.inner.Vectors.{swap_halves_lem}
use Rattle.symplectic.proofs.Pairings.{pairing_dot, pairing_sum, pairing_comm, pairing_self, pairing_low, swap_lt, swap_swap}
use Rattle.symplectic.proofs.Products.{times_of_units}
use Rattle.symplectic.proofs.Layers.{added, added_is, added_sum, added_lt, added_over, keeps_times, kept_pairs}
use Rattle.residue.specs.Residue.{residue}
use Rattle.residue.proofs.Core.{residue_times, residue_length, residue_lt}
use Rattle.self_inverse.specs.inner.Peels.{SymmetricSquare, Level}
use Rattle.self_inverse.specs.Promises.{Isotropic}
use Rattle.self_inverse.proofs.Peeling.{dot_past}

-- a row of m columns has dots with these alone
dot_low : (m a y : ℕ) → a < 2 ^ m → dot a y ≡ dot a (y % 2 ^ m)
dot_low m a y l =
    ap (dot a) (by_parts m y) ∙ dot_sum a (y / 2 ^ m * 2 ^ m) (y % 2 ^ m)
    ∙ ap (λ t. t ⊻ dot a (y % 2 ^ m)) (dot_comm a (y / 2 ^ m * 2 ^ m) ∙ dot_past m a (y / 2 ^ m) l)

-- the dot of two rows of 2n columns, as a pairing
pub dot_pairing : (n a y : ℕ) → a < 2 ^ (n + n) → dot a y ≡ pairing n a (swap_halves_lem n y)
dot_pairing n a y l = dot_low (n + n) a y l ∙ sym (pairing_dot n a (swap_halves_lem n y) ∙ ap (dot a) (swap_swap n y))

module _ (n : ℕ) (F : List ℕ) (size : length F ≡ n + n) where
  -- columns from 2n on add nothing
  pub added_low : (u : ℕ) → added n F (u % 2 ^ (n + n)) ≡ added n F u
  added_low u =
      sym (ap (added n F) (by_parts (n + n) u) ∙ added_sum n F (u / 2 ^ (n + n) * 2 ^ (n + n)) (u % 2 ^ (n + n))
      ∙ ap (λ t. t ⊕ added n F (u % 2 ^ (n + n))) (added_over n F size (u / 2 ^ (n + n))) ∙ zero_sum (added n F (u % 2 ^ (n + n))))

  -- what F adds, by the residue
  pub residue_adds : (u : ℕ) → times (swap_halves_lem n u) (residue n F) ≡ added n F u
  residue_adds u = residue_times n F size (swap_halves_lem n u) ∙ ap (added n F) (swap_swap n u) ∙ added_low u

  pub pair_added : (x y : ℕ) → pairing n x (added n F y) ≡ pairing n x y ⊻ pairing n x (times y F)
  pair_added x y =
      ap (pairing n x) (sym (added_low y) ∙ added_is n F (y % 2 ^ (n + n)) (mod-lt y (pow_pos (n + n))))
      ∙ pairing_sum n x (y % 2 ^ (n + n)) (times (y % 2 ^ (n + n)) F)
      ∙ ap₂ (λ s t. s ⊻ pairing n x t) (pairing_low n x y) (ap (λ m. times (y % 2 ^ m) F) (sym size) ∙ times_low F y)

  -- <u,uF> is <u,u + uF>
  pub pair_self : (u : ℕ) → pairing n u (added n F u) ≡ pairing n u (times u F)
  pair_self u = pair_added u u ∙ ap (λ t. t ⊻ pairing n u (times u F)) (pairing_self n u)

  module _ (bounded : All (λ f. f < 2 ^ (n + n)) F) where
    -- the residue's diagonal
    pub residue_self : (x : ℕ) → dot (times x (residue n F)) x ≡ pairing n (swap_halves_lem n x) (times (swap_halves_lem n x) F)
    residue_self x =
        let u = swap_halves_lem n x in
        ap (λ t. dot t x) (residue_times n F size x) ∙ dot_pairing n (added n F u) x (added_lt n F bounded u) ∙ pairing_comm n (added n F u) u ∙ pair_self u

    pub level_of_isotropic : Isotropic n F → Level (residue n F)
    level_of_isotropic h x = residue_self x ∙ h (swap_halves_lem n x) (swap_lt n x)

    pub isotropic_of_level : Level (residue n F) → Isotropic n F
    isotropic_of_level h u l =
        let e : swap_halves_lem n (swap_halves_lem n u) ≡ u = swap_swap n u ∙ mod-eq_of_lt l in
        sym (ap (λ t. pairing n t (times t F)) e) ∙ sym (residue_self (swap_halves_lem n u)) ∙ h (swap_halves_lem n u)

    module _ (symp : symplectic n F ≡ true) (twice : matmul F F ≡ units (n + n)) where
      twice_low : (y : ℕ) → times (times y F) F ≡ y % 2 ^ (n + n)
      twice_low y =
          let low = y % 2 ^ (n + n) in
          ap (λ t. times t F) (sym (ap (λ m. times (y % 2 ^ m) F) (sym size) ∙ times_low F y))
          ∙ sym (times_matmul F F low) ∙ ap (times low) twice ∙ times_of_units (n + n) low (mod-lt y (pow_pos (n + n)))

      adjoint : (x y : ℕ) → pairing n (times x F) y ≡ pairing n x (times y F)
      adjoint x y =
          sym (pairing_low n (times x F) y) ∙ ap (pairing n (times x F)) (sym (twice_low y)) ∙ keeps_times n F size symp x (times y F)

      added_adjoint : (x y : ℕ) → pairing n (added n F x) y ≡ pairing n x (added n F y)
      added_adjoint x y =
          pairing_comm n (added n F x) y ∙ pair_added y x ∙ ap₂ ◌⊻◌ (pairing_comm n y x) (pairing_comm n y (times x F) ∙ adjoint x y) ∙ sym (pair_added x y)

      -- all that F adds pairs to 0
      pub all_isotropic : (x y : ℕ) → pairing n (added n F x) (added n F y) ≡ false
      all_isotropic x y = kept_pairs n F size symp x y ∙ ap (λ t. t ⊻ pairing n x (added n F y)) (added_adjoint x y) ∙ bxor_self (pairing n x (added n F y))

      residue_dot : (x y : ℕ) → dot (times x (residue n F)) y ≡ pairing n (added n F (swap_halves_lem n x)) (swap_halves_lem n y)
      residue_dot x y = ap (λ t. dot t y) (residue_times n F size x) ∙ dot_pairing n (added n F (swap_halves_lem n x)) y (added_lt n F bounded (swap_halves_lem n x))

      pub residue_rest : SymmetricSquare (residue n F)
      residue_rest = record {
        symmetric = λ x y. residue_dot x y ∙ added_adjoint (swap_halves_lem n x) (swap_halves_lem n y) ∙ pairing_comm n (swap_halves_lem n x) (added n F (swap_halves_lem n y))
            ∙ sym (dot_comm x (times y (residue n F)) ∙ residue_dot y x);
        bounded = subst (λ m. All (λ v. v < 2 ^ m) (residue n F)) (sym (residue_length n F size)) (residue_lt n F size bounded);
      }
