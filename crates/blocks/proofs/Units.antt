-- The unit rows: how many, where each stands, their bound, their parts, and what they make of a matrix.
-- Assumes nothing.
use mathlib.Core.Path.{◌≡◌, refl, sym, ap, ap₂, ◌∙◌, fun_ext}
use mathlib.Core.Bool.{◌&&◌, and-false}
use mathlib.Core.List.{List, [], ◌∷◌, ◌++◌, map, map-map, map-append}
use Prim.Native.Nat.{ℕ, zero, suc, ◌+◌, ◌*◌, ◌/◌, ◌%◌, ◌^◌, ◌≤◌, ◌<◌}
use native.Mathlib.Nat.{pow-suc, mul-one, mul_assoc, mul-div_cancel, mod-lt, zero-add, suc-add, le_of_suc-le-suc, not-suc-le-zero}
use native.Mathlib.Numerals.{add-one}
use native.Mathlib.Omega.{arith}
use lib.Pow.{pow_pos, mod-pow-add}
use lib.ListN.{length, get_or, take, length-map, get_or-map}
use Rattle.binar.specs.Bits.{◌⊻◌, digit, odd, dot}
use Rattle.binar.proofs.Digits.{low_digit, odd_double}
use Rattle.binar.proofs.Dots.{dot_step}
use Rattle.binar.proofs.Ones.{dot_unit}
use Rattle.binar.proofs.Sums.{bit_zero_is_odd}
use Rattle.blocks.specs.Matrices.{times, matmul, units, dots, All}
use Rattle.blocks.proofs.All.{All-map, All-to_map}
use Rattle.blocks.proofs.Products.{times_unit, times_double}

pub units_zero : units 0 ≡ []
unfolding units
units_zero = refl

pub units_suc : (m : ℕ) → units (suc m) ≡ 1 ∷ map (λ u. u * 2) (units m)
unfolding units
units_suc m = refl

pub units_length : (m : ℕ) → length (units m) ≡ m
unfolding units
units_length zero = refl
units_length (suc m) = ap suc (length-map (units m) (λ u. u * 2) ∙ units_length m)

pub units_at : (i m : ℕ) → i < m → get_or (units m) i 0 ≡ 2 ^ i
unfolding units
units_at i zero h = absurd (not-suc-le-zero h)
units_at zero (suc m) h = refl
units_at (suc i) (suc m) h =
    get_or-map (λ u. u * 2) (units m) i 0 ∙ ap (λ u. u * 2) (units_at i m (le_of_suc-le-suc h)) ∙ sym (pow-suc 2 i)

pub units_lt : (m : ℕ) → All (λ u. u < 2 ^ m) (units m)
unfolding units
units_lt zero = tt
units_lt (suc m) = (omega (arith, pow_pos m), All-to_map (λ u. u * 2) (λ u. u < 2 ^ suc m) (units m) (All-map (λ u h. omega arith) (units m) (units_lt m)))

by_one : (xs : List ℕ) → xs ≡ map (λ u. u * 2 ^ 0) xs
by_one [] = refl
by_one (x ∷ xs) = ap₂ ◌∷◌ (sym (mul-one x)) (by_one xs)

pub units_split : (n k : ℕ) → units (n + k) ≡ units n ++ map (λ u. u * 2 ^ n) (units k)
unfolding units
units_split zero k = ap units (zero-add k) ∙ by_one (units k)
units_split (suc n) k =
    ap units (suc-add n k)
    ∙ ap (λ l. 1 ∷ l) (ap (map (λ u. u * 2)) (units_split n k) ∙ map-append (λ u. u * 2) (units n) (map (λ u. u * 2 ^ n) (units k))
    ∙ ap (λ l. map (λ u. u * 2) (units n) ++ l) (map-map (λ u. u * 2) (λ u. u * 2 ^ n) (units k) ∙ ap (λ f. map f (units k)) (fun_ext (λ u. mul_assoc u (2 ^ n) 2 ∙ ap (λ t. u * t) (sym (pow-suc 2 n))))))

pub times_units : (M : List ℕ) → map (λ u. times u M) (units (length M)) ≡ M
unfolding units
times_units [] = refl
times_units (v ∷ M) =
    ap₂ ◌∷◌ (times_unit 0 (v ∷ M))
    (map-map (λ u. times u (v ∷ M)) (λ u. u * 2) (units (length M)) ∙ ap (λ f. map f (units (length M))) (fun_ext (λ u. times_double u v M)) ∙ times_units M)

pub matmul_units : (M : List ℕ) → matmul (units (length M)) M ≡ M
unfolding matmul
matmul_units M = times_units M

-- the first unit rows
pub take_map : (f : ℕ → ℕ) (k : ℕ) (l : List ℕ) → take k (map f l) ≡ map f (take k l)
take_map f zero l = refl
take_map f (suc k) [] = refl
take_map f (suc k) (x ∷ l) = ap (λ (m : List ℕ). f x ∷ m) (take_map f k l)

pub take_units : (k m : ℕ) → k ≤ m → take k (units m) ≡ units k
unfolding units
take_units zero m h = refl
take_units (suc k) zero h = absurd (not-suc-le-zero h)
take_units (suc k) (suc m) h =
    ap (λ (l : List ℕ). 1 ∷ l) (take_map (λ u. u * 2) k (units m) ∙ ap (map (λ u. u * 2)) (take_units k m (le_of_suc-le-suc h)))

-- ---- the dots with the unit rows: as many columns as there are rows

doubled_dots : (M : List ℕ) (v : ℕ) → dots (map (λ u. u * 2) M) v ≡ dots M (v / 2)
unfolding dots
doubled_dots [] v = refl
doubled_dots (u ∷ M) v =
    ap₂ (λ q b. q * 2 + digit b) (doubled_dots M v)
    (dot_step v (u * 2) ∙ ap₂ (λ b t. (odd v && b) ⊻ dot (v / 2) t) (odd_double u) (mul-div_cancel u (omega arith)) ∙ ap (λ b. b ⊻ dot (v / 2) u) (and-false (odd v)))

pub dots_units : (k v : ℕ) → dots (units k) v ≡ v % 2 ^ k
unfolding dots
dots_units zero v = ap (λ M. dots M v) units_zero ∙ omega (arith, mod-lt v (pow_pos 0))
dots_units (suc k) v =
    ap (λ M. dots M v) (units_suc k) ∙ ap₂ (λ q t. q * 2 + t) (doubled_dots (units k) v ∙ dots_units k (v / 2)) (ap digit (dot_unit v 0 ∙ bit_zero_is_odd v) ∙ sym (low_digit v))
    ∙ sym (ap (λ n. v % 2 ^ n) (sym (add-one k)) ∙ mod-pow-add v k 1)
