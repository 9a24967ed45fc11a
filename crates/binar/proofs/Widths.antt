-- What a row is worth: the blank one, its bound, what shifts and cuts at or past the width leave of a value below it, and ones past the width.
-- Assumes nothing.
use Rattle.std.proofs.Common.{◌≡◌, ℕ, ◌+◌, ◌-◌, ◌*◌, ◌/◌, ◌%◌, ◌^◌, ◌<◌, ◌≤◌, true, false, ltb, sym, refl, ap, ◌∙◌, mod-eq_of_lt, mul_assoc, one-mul, arith, pow_mono, pow-add, lt-ltb}
use native.Mathlib.Nat.{div-eq_of_lt, mul-mod_left}
use lib.Pow.{low, ones_lt, ones_split}
use Rattle.binar.specs.Bits.{odd, bit}
use Rattle.binar.specs.Rows.{width, row_bound, val, unit}
use Rattle.binar.specs.inner.Blank.{blank}
use Rattle.binar.specs.declared.Row.{Row}

pub val_blank : val blank ≡ 0
unfolding val
val_blank = refl

-- a row's value is below the bound
pub val_lt : (r : Row) → r.word < 2 ^ 64 → val r < row_bound
unfolding val row_bound
val_lt r h = h

-- a row is its lowest 64 columns
pub one_word : (r : Row) → r.word < 2 ^ 64 → val r % 2 ^ 64 ≡ val r
unfolding val
one_word r h = mod-eq_of_lt h

-- a row holds each value of no more columns than it has
pub pow_bound : (k : ℕ) → k ≤ width → 2 ^ k ≤ row_bound
unfolding row_bound
pow_bound k h = pow_mono h

-- ---- at and past the width

module _ (a k : ℕ) (h : a < 2 ^ 64) (past : 64 ≤ k) where
  pub past_lt : a < 2 ^ k
  past_lt = omega (arith, pow_mono past)

  pub past_low : a % 2 ^ k ≡ a
  past_low = mod-eq_of_lt past_lt

  pub past_down : a / 2 ^ k ≡ 0
  past_down = div-eq_of_lt past_lt

  pub past_bit : bit k a ≡ false
  unfolding bit odd
  past_bit = ap odd past_down

  pub past_fits : ltb a (2 ^ k) ≡ true
  past_fits = lt-ltb a (2 ^ k) past_lt

pub past_up : (a k : ℕ) → 64 ≤ k → a * 2 ^ k % 2 ^ 64 ≡ 0
past_up a k past =
    let e : k - 64 + 64 ≡ k = omega arith in
    ap (λ t. a * 2 ^ t % 2 ^ 64) (sym e) ∙ ap (λ t. a * t % 2 ^ 64) (pow-add 2 (k - 64) 64)
    ∙ ap (λ t. t % 2 ^ 64) (sym (mul_assoc a (2 ^ (k - 64)) (2 ^ 64))) ∙ mul-mod_left (a * 2 ^ (k - 64)) (2 ^ 64)

pub unit_past : (k : ℕ) → 64 ≤ k → unit k ≡ 0
unfolding unit row_bound
unit_past k past = ap (λ t. t % 2 ^ 64) (sym (one-mul (2 ^ k))) ∙ past_up 1 k past

pub past_ones : (k : ℕ) → 64 ≤ k → (2 ^ k - 1) % 2 ^ 64 ≡ 2 ^ 64 - 1
past_ones k past =
    let e : k - 64 + 64 ≡ k = omega arith in
    ap (λ t. (2 ^ t - 1) % 2 ^ 64) (sym e) ∙ ap (λ t. t % 2 ^ 64) (ones_split (k - 64) 64) ∙ low (2 ^ (k - 64) - 1) 64 (ones_lt 64)
