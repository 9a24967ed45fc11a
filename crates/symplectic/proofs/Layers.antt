-- An action as a map: what it adds to a vector. A list has the product F just where it adds what F adds; and a symplectic F keeps the pairing.
-- Assumes nothing.
use mathlib.Core.Path.{◌≡◌, refl, sym, ap, ap₂, ◌∙◌}
use mathlib.Core.Bool.{Bool, true, false, beq}
use mathlib.Core.List.{List, map, zip, zip_with}
use Prim.Native.Nat.{ℕ, ◌+◌, ◌*◌, ◌/◌, ◌%◌, ◌^◌, ◌<◌}
use native.Mathlib.Nat.{mod-lt, mod-eq_of_lt, mul-mod_left}
use lib.Pow.{pow_pos}
use lib.ListN.{length, length-map}
use Rattle.binar.specs.Bits.{◌⊻◌, ◌⊕◌}
use Rattle.binar.proofs.Sums.{bxor_self, sum_assoc, sum_comm, sum_self, zero_sum, sum_lt, sum_low, by_parts}
use Rattle.blocks.specs.Matrices.{times, units, All}
use Rattle.blocks.proofs.All.{All-map, All-any, All-of_map, All-to_map}
use Rattle.blocks.proofs.Products.{times_sum, times_high, times_low, times_lt}
use Rattle.blocks.proofs.Units.{units_length, units_lt, times_units}
use Rattle.linear.specs.Maps.{Additive}
use Rattle.linear.proofs.Sums.{swap4, self_left, eq_of_sum}
use Rattle.linear.proofs.Instances.{𝔹, 𝕎}
use Rattle.linear.proofs.Maps.{same_of_beq}
use Rattle.linear.proofs.Rows.{zero_by_units}
use Rattle.symplectic.specs.Turns.{pairing, followed, product, pair_alike, symplectic, identity_plus}
use Rattle.std.specs.List.{list_all}
use Rattle.symplectic.specs.inner.Vectors.{run}
use Rattle.symplectic.proofs.Lists.{map_eq, eq_map, all_true, true_all, zip_map, zip_with_map}
use Rattle.symplectic.proofs.Pairings.{𝕡, pairing_sum, pairing_comm, pairing_zero, pair_over}
use Rattle.symplectic.proofs.Products.{run_sum, run_over, run_pairing, run_times, turn_pairing, followed_times, followed_length, product_run, product_length}
use Rattle.symplectic.proofs.Wall.{Residue, pairs_of}

-- a row times the images of the units is the row's image
pub times_images : (f : ℕ → ℕ) → Additive 𝕎 𝕎 f → (m : ℕ) → ((h : ℕ) → f (h * 2 ^ m) ≡ 0) → (u : ℕ) → times u (map f (units m)) ≡ f u
times_images f a m over u =
    eq_of_sum 𝕎 (times u R) (f u)
    (zero_by_units 𝕎 (λ z. times z R ⊕ f z) (λ x y. ap₂ ◌⊕◌ (times_sum R x y) (a x y) ∙ swap4 𝕎 (times x R) (times y R) (f x) (f y)) m
    (All-map (λ z e. ap (λ t. t ⊕ f z) e ∙ sum_self (f z)) (units m)
    (eq_map (λ z. times z R) f (units m) (ap (λ k. map (λ z. times z R) (units k)) (sym long) ∙ times_units R)))
    (λ h. ap₂ ◌⊕◌ (ap (λ k. times (h * 2 ^ k) R) (sym long) ∙ times_high R h) (over h) ∙ zero_sum 0) u)
  where
    R : List ℕ
    R = map f (units m)

    long : length (map f (units m)) ≡ m
    long = length-map (units m) f ∙ units_length m

-- ---- what an action adds to a vector: nothing to columns from 2n on

unfoldable pub added : ℕ → List ℕ → ℕ → ℕ
added n F z = (z % 2 ^ (n + n)) ⊕ times z F

pub added_is : (n : ℕ) (F : List ℕ) (z : ℕ) → z < 2 ^ (n + n) → added n F z ≡ z ⊕ times z F
unfolding added
added_is n F z h = ap (λ t. t ⊕ times z F) (mod-eq_of_lt h)

pub added_sum : (n : ℕ) (F : List ℕ) → Additive 𝕎 𝕎 (added n F)
unfolding added
added_sum n F x y =
    ap₂ ◌⊕◌ (sum_low (n + n) x y) (times_sum F x y) ∙ swap4 𝕎 (x % 2 ^ (n + n)) (y % 2 ^ (n + n)) (times x F) (times y F)

pub added_unit : (n : ℕ) (F : List ℕ) → All (λ u. added n F u ≡ u ⊕ times u F) (units (n + n))
added_unit n F = All-map (λ u h. added_is n F u h) (units (n + n)) (units_lt (n + n))

pub added_lt : (n : ℕ) (F : List ℕ) → All (λ f. f < 2 ^ (n + n)) F → (z : ℕ) → added n F z < 2 ^ (n + n)
unfolding added
added_lt n F a z = sum_lt (n + n) (z % 2 ^ (n + n)) (times z F) (mod-lt z (pow_pos (n + n))) (times_lt (n + n) F a z)

-- the image of a vector
pub image_is : (n : ℕ) (F : List ℕ) (z : ℕ) → z < 2 ^ (n + n) → z ⊕ added n F z ≡ times z F
image_is n F z h = ap (λ t. z ⊕ t) (added_is n F z h) ∙ self_left 𝕎 z (times z F)

pub image_parts : (n : ℕ) (F : List ℕ) (z : ℕ) → z ⊕ added n F z ≡ z / 2 ^ (n + n) * 2 ^ (n + n) ⊕ times z F
unfolding added
image_parts n F z =
    ap (λ t. t ⊕ (z % 2 ^ (n + n) ⊕ times z F)) (by_parts (n + n) z)
    ∙ sum_assoc (z / 2 ^ (n + n) * 2 ^ (n + n)) (z % 2 ^ (n + n)) (z % 2 ^ (n + n) ⊕ times z F)
    ∙ ap (λ t. z / 2 ^ (n + n) * 2 ^ (n + n) ⊕ t) (self_left 𝕎 (z % 2 ^ (n + n)) (times z F))

-- a list adds what its product adds
pub adds_of_product : (n : ℕ) (F vs : List ℕ) → product n vs ≡ F → (z : ℕ) → run n vs z ≡ z ⊕ added n F z
adds_of_product n F vs e z =
    ap (run n vs) (by_parts (n + n) z) ∙ run_sum n vs (z / 2 ^ (n + n) * 2 ^ (n + n)) (z % 2 ^ (n + n))
    ∙ ap₂ ◌⊕◌ (run_over n vs (z / 2 ^ (n + n)))
    (run_times n vs (z % 2 ^ (n + n)) (mod-lt z (pow_pos (n + n))) ∙ ap (times (z % 2 ^ (n + n))) e ∙ ap (λ m. times (z % 2 ^ m) F) (sym size) ∙ times_low F z)
    ∙ sym (image_parts n F z)
  where
    size : length F ≡ n + n
    size = ap length (sym e) ∙ product_length n vs

-- ---- an action of 2n rows

-- the rows pair as the basis does
abbrev pub RowsPair : ℕ → List ℕ → Type 0
RowsPair n F = All (λ u. All (λ v. pairing n (times u F) (times v F) ≡ pairing n u v) (units (n + n))) (units (n + n))

module _ (n : ℕ) (F : List ℕ) (size : length F ≡ n + n) where
  pub F-is : map (λ u. times u F) (units (n + n)) ≡ F
  F-is = ap (λ m. map (λ u. times u F) (units m)) (sym size) ∙ times_units F

  -- columns from 2n on
  pub times_over : (h : ℕ) → times (h * 2 ^ (n + n)) F ≡ 0
  times_over h = ap (λ m. times (h * 2 ^ m) F) (sym size) ∙ times_high F h

  pub added_over : (h : ℕ) → added n F (h * 2 ^ (n + n)) ≡ 0
  unfolding added
  added_over h = ap₂ ◌⊕◌ (mul-mod_left h (2 ^ (n + n))) (times_over h) ∙ zero_sum 0

  -- so they do not matter
  pub added_low : (z : ℕ) → added n F (z % 2 ^ (n + n)) ≡ added n F z
  added_low z =
      sym (ap (added n F) (by_parts (n + n) z) ∙ added_sum n F (z / 2 ^ (n + n) * 2 ^ (n + n)) (z % 2 ^ (n + n))
      ∙ ap (λ t. t ⊕ added n F (z % 2 ^ (n + n))) (added_over (z / 2 ^ (n + n))) ∙ zero_sum (added n F (z % 2 ^ (n + n))))

  -- the rows are the images of the basis vectors
  pub rows_are : (f : ℕ → ℕ) → ((u : ℕ) → u < 2 ^ (n + n) → f u ≡ times u F) → map f (units (n + n)) ≡ F
  rows_are f e = map_eq f (λ u. times u F) (units (n + n)) (All-map (λ u h. e u h) (units (n + n)) (units_lt (n + n))) ∙ F-is

  pub product_by : (vs : List ℕ) → ((u : ℕ) → u < 2 ^ (n + n) → run n vs u ≡ times u F) → product n vs ≡ F
  product_by vs e = product_run n vs ∙ rows_are (run n vs) e

  pub product_of_adds : (vs : List ℕ) → ((z : ℕ) → run n vs z ≡ z ⊕ added n F z) → product n vs ≡ F
  product_of_adds vs a = product_by vs (λ u h. a u ∙ image_is n F u h)

  pub identity_plus_is : identity_plus n F ≡ map (added n F) (units (n + n))
  unfolding identity_plus
  identity_plus_is =
      ap (λ l. zip_with ◌⊕◌ l (units (n + n))) (sym F-is) ∙ zip_with_map ◌⊕◌ (λ u. times u F) (units (n + n))
      ∙ map_eq (λ u. times u F ⊕ u) (added n F) (units (n + n))
      (All-map (λ u e. sum_comm (times u F) u ∙ sym e) (units (n + n)) (added_unit n F))

  pub plus_times : (u : ℕ) → times u (identity_plus n F) ≡ added n F u
  plus_times u = ap (times u) identity_plus_is ∙ times_images (added n F) (added_sum n F) (n + n) added_over u

  -- ---- the test

  zipped : zip F (units (n + n)) ≡ map (λ u. (times u F, u)) (units (n + n))
  zipped = ap (λ l. zip l (units (n + n))) (sym F-is) ∙ zip_map (λ u. times u F) (units (n + n))

  pub checked : symplectic n F ≡ true → RowsPair n F
  unfolding symplectic pair_alike
  checked symp =
      All-map (λ u e. All-map (λ v f. same_of_beq (pairing n (times u F) (times v F)) (pairing n u v) f) us
      (All-of_map at (λ b. pair_alike n (at u) b ≡ true) us (all_true (pair_alike n (at u)) (map at us) e))) us
      (All-of_map at (λ a. list_all (pair_alike n a) (map at us) ≡ true) us (all_true (λ a. list_all (pair_alike n a) (map at us)) (map at us) (rw zipped at symp)))
    where
      us : List ℕ
      us = units (n + n)

      at : ℕ → ℕ × ℕ
      at u = (times u F, u)

  pub symplectic_of : RowsPair n F → symplectic n F ≡ true
  unfolding symplectic pair_alike
  symplectic_of a =
      ap (λ rows. list_all (λ p. list_all (pair_alike n p) rows) rows) zipped
      ∙ true_all (λ p. list_all (pair_alike n p) (map at us)) (map at us) (All-to_map at (λ p. list_all (pair_alike n p) (map at us) ≡ true) us
      (All-map (λ u e. true_all (pair_alike n (at u)) (map at us) (All-to_map at (λ p. pair_alike n (at u) p ≡ true) us
      (All-map (λ v f. ap (λ b. beq b (pairing n u v)) f ∙ same (pairing n u v)) us e))) us a))
    where
      us : List ℕ
      us = units (n + n)

      at : ℕ → ℕ × ℕ
      at u = (times u F, u)

      same : (b : Bool) → beq b b ≡ true
      same true = refl
      same false = refl

  -- ---- a symplectic action keeps the pairing

  module _ (symp : symplectic n F ≡ true) where
    off : ℕ → ℕ → Bool
    off x y = pairing n (times x F) (times y F) ⊻ pairing n x y

    off_right : (x : ℕ) → Additive 𝕎 𝔹 (off x)
    unfolding off
    off_right x y z =
        ap₂ ◌⊻◌ (ap (pairing n (times x F)) (times_sum F y z) ∙ pairing_sum n (times x F) (times y F) (times z F)) (pairing_sum n x y z)
        ∙ swap4 𝔹 (pairing n (times x F) (times y F)) (pairing n (times x F) (times z F)) (pairing n x y) (pairing n x z)

    off_comm : (x y : ℕ) → off x y ≡ off y x
    unfolding off
    off_comm x y = ap₂ ◌⊻◌ (pairing_comm n (times x F) (times y F)) (pairing_comm n x y)

    off_over : (x h : ℕ) → off x (h * 2 ^ (n + n)) ≡ false
    unfolding off
    off_over x h = ap₂ ◌⊻◌ (ap (pairing n (times x F)) (times_over h) ∙ pairing_zero n (times x F)) (pair_over n x h)

    off_units : All (λ u. All (λ v. off u v ≡ false) (units (n + n))) (units (n + n))
    unfolding off
    off_units =
        All-map (λ u c. All-map (λ v d. ap (λ t. t ⊻ pairing n u v) d ∙ bxor_self (pairing n u v)) (units (n + n)) c) (units (n + n)) (checked symp)

    pub keeps_times : (x y : ℕ) → pairing n (times x F) (times y F) ≡ pairing n x y
    unfolding off
    keeps_times x y =
        eq_of_sum 𝔹 (pairing n (times x F) (times y F)) (pairing n x y)
        (off_comm x y ∙ zero_by_units 𝔹 (off y) (off_right y) (n + n)
        (All-map (λ u a. off_comm y u ∙ zero_by_units 𝔹 (off u) (off_right u) (n + n) a (off_over u) y) (units (n + n)) off_units) (off_over y) x)

    pub keeps : (x y : ℕ) → pairing n (x ⊕ added n F x) (y ⊕ added n F y) ≡ pairing n x y
    keeps x y =
        low (x ⊕ added n F x) y ∙ pairing_comm n (x ⊕ added n F x) (times y F) ∙ low (times y F) x
        ∙ pairing_comm n (times y F) (times x F) ∙ keeps_times x y
      where
        low : (u z : ℕ) → pairing n u (z ⊕ added n F z) ≡ pairing n u (times z F)
        low u z =
            ap (pairing n u) (image_parts n F z) ∙ pairing_sum n u (z / 2 ^ (n + n) * 2 ^ (n + n)) (times z F)
            ∙ ap (λ t. t ⊻ pairing n u (times z F)) (pair_over n u (z / 2 ^ (n + n)))

    pub kept_pairs : (x y : ℕ) → pairing n (added n F x) (added n F y) ≡ pairing n (added n F x) y ⊻ pairing n x (added n F y)
    kept_pairs = pairs_of 𝕎 (𝕡 n) (added n F) keeps

    abbrev pub residue_map : Residue 𝕎 (𝕡 n)
    residue_map = record { of = added n F; of_add = added_sum n F; pairs = kept_pairs }

-- ---- products are symplectic

pub same-rows : (n : ℕ) (F G : List ℕ) → length F ≡ n + n → length G ≡ n + n → ((u : ℕ) → u < 2 ^ (n + n) → times u F ≡ times u G) → F ≡ G
same-rows n F G s t e = sym (F-is n F s) ∙ rows_are n G t (λ u. times u F) e

pub product_symplectic : (n : ℕ) (vs : List ℕ) → symplectic n (product n vs) ≡ true
product_symplectic n vs =
    symplectic_of n (product n vs) (product_length n vs)
    (All-map (λ u h. All-map (λ v k. sym (ap₂ (pairing n) (run_times n vs u h) (run_times n vs v k)) ∙ run_pairing n vs u v) us (units_lt (n + n))) us (units_lt (n + n)))
  where
    us : List ℕ
    us = units (n + n)

pub followed_symplectic : (n : ℕ) (F : List ℕ) (v : ℕ) → length F ≡ n + n → symplectic n F ≡ true → symplectic n (followed n F v) ≡ true
followed_symplectic n F v size symp =
    symplectic_of n (followed n F v) (followed_length n F v ∙ size)
    (All-any (λ u. All-any (λ w. ap₂ (pairing n) (followed_times n F v u) (followed_times n F v w) ∙ turn_pairing n v (times u F) (times w F) ∙ keeps_times n F size symp u w) us) us)
  where
    us : List ℕ
    us = units (n + n)
