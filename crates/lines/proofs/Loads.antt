-- The qubits that a vector touches are the ones of x OR z, and no more than n; the load of a list from a place on.
-- Assumes nothing.
use mathlib.Core.Path.{◌≡◌, sym, ap, ap₂, ◌∙◌}
use mathlib.Core.Bool.{◌||◌}
use mathlib.Core.List.{List, [], ◌∷◌}
use Prim.Native.Nat.{ℕ, zero, suc, ◌+◌, ◌*◌, ◌/◌, ◌%◌, ◌^◌, ◌≤◌, ◌<◌}
use native.Mathlib.Nat.{div-one, mod-one, mod-lt, mod-le, suc-mul}
use native.Mathlib.Numerals.{add-one}
use native.Mathlib.Omega.{arith}
use lib.Bits.{bit_or, or_lt}
use lib.ListN.{length, get_or, drop}
use lib.Pow.{pow_pos, shr_le}
use lib.Seq.{drop-cons}
use Rattle.binar.specs.Bits.{digit, bit, weight}
use Rattle.binar.proofs.Digits.{bit_down, bit-or}
use Rattle.binar.proofs.Dots.{weight_zero, weight_le, weight_from}
use Rattle.lines.specs.Lines.{touched_from, touched, load}

-- ---- a vector

module _ (n v : ℕ) where
  -- x OR z, qubit q in column q
  abbrev either : ℕ
  either = bit_or v (v / 2 ^ n)

  touches : (q : ℕ) → bit q either ≡ bit q v || bit (n + q) v
  touches q = bit-or q v (v / 2 ^ n) ∙ ap (λ t. bit q v || t) (bit_down n q v)

  from_weight : (k q : ℕ) → weight (either / 2 ^ q % 2 ^ k) ≡ touched_from n v k q
  unfolding touched_from
  from_weight zero q = ap weight (mod-one (either / 2 ^ q)) ∙ weight_zero
  from_weight (suc k) q = weight_from q k either ∙ ap₂ (λ b t. digit b + t) (touches q) (from_weight k (suc q))

  pub touched_weight : weight (bit_or v (v / 2 ^ n) % 2 ^ n) ≡ touched n v
  unfolding touched
  touched_weight = ap (λ t. weight (t % 2 ^ n)) (sym (div-one either)) ∙ from_weight n 0

  at_most : (k : ℕ) → either % 2 ^ n < 2 ^ k → touched n v ≤ k
  at_most k h = omega (arith, touched_weight, weight_le k (either % 2 ^ n) h)

  -- no more qubits than n
  touched_le : touched n v ≤ n
  touched_le = at_most n (mod-lt either (pow_pos n))

  -- no more than v has columns
  pub touched_within : (k : ℕ) → v < 2 ^ k → touched n v ≤ k
  touched_within k h =
      let down : v / 2 ^ n < 2 ^ k = omega (arith, shr_le v n) in
      at_most k (omega (arith, mod-le either (2 ^ n), or_lt k v (v / 2 ^ n) h down))

-- ---- a list

pub load_next : (n i : ℕ) (l : List ℕ) → i < length l → load n (drop i l) ≡ touched n (get_or l i 0) + load n (drop (i + 1) l)
unfolding load
load_next n i l h = ap (load n) (drop-cons l i 0 h) ∙ ap (λ (j : ℕ). touched n (get_or l i 0) + load n (drop j l)) (sym (add-one i))

pub load_le : (n : ℕ) (vs : List ℕ) → load n vs ≤ length vs * n
unfolding load
load_le n [] = omega arith
load_le n (v ∷ vs) = omega (arith, touched_le n v, load_le n vs, suc-mul (length vs) n)
