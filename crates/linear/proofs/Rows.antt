-- Spans of rows: what `times` draws, the unit rows, and the width of a span.
-- Assumes nothing.
use mathlib.Core.Path.{◌≡◌, refl, sym, ap, ap₂, ◌∙◌, subst}
use mathlib.Core.Bool.{Bool, true, false, true≢false}
use mathlib.Core.List.{List, [], ◌∷◌, map}
use Prim.Native.Nat.{ℕ, zero, suc, ◌+◌, ◌*◌, ◌/◌, ◌%◌, ◌^◌, ◌<◌}
use native.Mathlib.Omega.{arith}
use native.Mathlib.Nat.{pow-suc, mod-lt}
use lib.Arith.{lt-one}
use lib.Pow.{pow_pos}
use lib.ListN.{length}
use Rattle.binar.specs.Bits.{◌⊕◌, odd, digit}
use Rattle.binar.proofs.Digits.{digit_lt, odd_digit, half_digit, by_digits, odd_one, odd_double, odd_sum}
use Rattle.binar.proofs.Sums.{sum_lt, sum_up, parts_sum, by_parts}
use Rattle.blocks.specs.Matrices.{times, units, All}
use Rattle.blocks.proofs.All.{All-any, All-to_map}
use Rattle.blocks.proofs.Products.{times_nil, times_cons}
use Rattle.blocks.proofs.Units.{units_zero, units_suc}
use Rattle.linear.specs.VectorSpace.{VectorSpace, scale}
use Rattle.linear.specs.Span.{InSpan, Indep}
use Rattle.linear.specs.Maps.{Additive}
use Rattle.linear.proofs.Sums.{cancel_right}
use Rattle.linear.proofs.Instances.{𝔹, 𝕎}
use Rattle.linear.proofs.Maps.{map_o, map_at, span_map, span_kernel, indep_map}

-- ---- times

pub times_in : (c : ℕ) (M : List ℕ) → InSpan 𝕎 M (times c M)
times_in c [] = times_nil c
times_in c (v ∷ M) = (odd c, rw (times_cons, cancel_right 𝕎) (times_in (c / 2) M))

-- every member of the span is drawn
pub drawn : (M : List ℕ) (x : ℕ) → InSpan 𝕎 M x → (c : ℕ) × (c < 2 ^ length M) × (times c M ≡ x)
drawn [] x h = (0, omega arith, times_nil 0 ∙ sym h)
drawn (v ∷ M) x (b, h) =
    let r = drawn M (x ⊕ scale 𝕎 b v) h in (
      r.0 * 2 + digit b,
      omega (arith, digit_lt b, r.1, pow-suc 2 (length M)),
      times_cons (r.0 * 2 + digit b) v M ∙ ap₂ (λ q t. times q M ⊕ scale 𝕎 t v) (half_digit b r.0) (odd_digit b r.0)
          ∙ ap (λ t. t ⊕ scale 𝕎 b v) r.2 ∙ cancel_right 𝕎 x (scale 𝕎 b v),
    )

pub map_times : (f : ℕ → ℕ) → Additive 𝕎 𝕎 f → (M : List ℕ) (c : ℕ) → f (times c M) ≡ times c (map f M)
map_times f a [] c = ap f (times_nil c) ∙ map_o 𝕎 𝕎 f a ∙ sym (times_nil c)
map_times f a (v ∷ M) c =
    ap f (times_cons c v M) ∙ map_at 𝕎 𝕎 f a (times (c / 2) M) (odd c) v
    ∙ ap (λ t. t ⊕ scale 𝕎 (odd c) (f v)) (map_times f a M (c / 2)) ∙ sym (times_cons c (f v) (map f M))

-- ---- the unit rows

abbrev dbl : ℕ → ℕ
dbl u = u * 2

dbl_add : Additive 𝕎 𝕎 dbl
dbl_add x y = sum_up 1 x y

by_double : (z : ℕ) → dbl (z / 2) ⊕ scale 𝕎 (odd z) 1 ≡ z
by_double z = ap (λ t. dbl (z / 2) ⊕ t) (one (odd z)) ∙ parts_sum 1 (z / 2) (digit (odd z)) (digit_lt (odd z)) ∙ sym (by_digits z)
  where
    one : (b : Bool) → scale 𝕎 b 1 ≡ digit b
    one true = refl
    one false = refl

pub units_span : (m z : ℕ) → z < 2 ^ m → InSpan 𝕎 (units m) z
units_span zero z h = rw units_zero (lt-one h)
units_span (suc m) z h = rw units_suc (
  odd z,
  subst (InSpan 𝕎 (map dbl (units m))) (sym (ap (λ t. t ⊕ scale 𝕎 (odd z) 1) (sym (by_double z)) ∙ cancel_right 𝕎 (dbl (z / 2)) (scale 𝕎 (odd z) 1)))
      (span_map 𝕎 𝕎 dbl dbl_add (units m) (z / 2) (units_span m (z / 2) (omega arith))),
)

pub units_indep : (m : ℕ) → Indep 𝕎 (units m)
units_indep zero = rw units_zero tt
units_indep (suc m) = rw units_suc (
  λ h. true≢false (sym odd_one
      ∙ span_kernel 𝕎 𝔹 odd odd_sum (map dbl (units m)) (All-to_map dbl (λ u. odd u ≡ false) (units m) (All-any odd_double (units m))) 1 h),
  indep_map 𝕎 𝕎 dbl dbl_add (λ x y e. omega arith) (units m) (units_indep m),
)

-- an additive map that is zero on the units, and on the multiples of 2 ^ m
pub zero_by_units : (T : VectorSpace) (f : ℕ → T.Car) → Additive 𝕎 T f → (m : ℕ) → All (λ u. f u ≡ T.o) (units m) → ((h : ℕ) → f (h * 2 ^ m) ≡ T.o) → (z : ℕ) → f z ≡ T.o
zero_by_units T f a m e k z =
    ap f (by_parts m z)
    ∙ a (z / 2 ^ m * 2 ^ m) (z % 2 ^ m)
    ∙ ap₂ T.add (k (z / 2 ^ m)) (span_kernel 𝕎 T f a (units m) e (z % 2 ^ m) (units_span m (z % 2 ^ m) (mod-lt z (pow_pos m))))
    ∙ T.zero-add T.o

-- ---- widths

-- rows of m columns span rows of m columns
pub span_lt : (m : ℕ) (M : List ℕ) → All (λ v. v < 2 ^ m) M → (x : ℕ) → InSpan 𝕎 M x → x < 2 ^ m
span_lt m [] a x h = rw h (pow_pos m)
span_lt m (v ∷ M) a x (c, h) =
    subst (λ t. t < 2 ^ m) (cancel_right 𝕎 x (scale 𝕎 c v)) (sum_lt m (x ⊕ scale 𝕎 c v) (scale 𝕎 c v) (span_lt m M a.1 (x ⊕ scale 𝕎 c v) h) (scaled c))
  where
    scaled : (c : Bool) → scale 𝕎 c v < 2 ^ m
    scaled true = a.0
    scaled false = pow_pos m
