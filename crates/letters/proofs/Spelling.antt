-- A vector as it is printed: its bytes by their place, and how many there are.
-- Assumes nothing.
use mathlib.Core.Path.{◌≡◌, refl, sym, ap, ◌∙◌}
use mathlib.Core.List.{map}
use Prim.Native.Nat.{ℕ, zero, suc, ◌+◌, ◌/◌, ◌^◌, ◌<◌}
use native.Mathlib.Nat.{le_of_suc-le-suc, not-suc-le-zero, zero-add, add-zero, add-suc, suc-add}
use lib.ListN.{length, get_or}
use Rattle.binar.specs.Bits.{bit}
use Rattle.binar.proofs.Digits.{bit_down}
use Rattle.letters.specs.Letters.{letter, letters_from, letters, byte, spelling}

module _ (n v : ℕ) where
  from_length : (k q : ℕ) → length (map byte (letters_from n v k q)) ≡ k
  unfolding letters_from
  from_length zero q = refl
  from_length (suc k) q = ap suc (from_length k (suc q))

  -- the byte of qubit j
  abbrev printed : ℕ → ℕ
  printed j = byte (letter (bit j v) (bit (n + j) v))

  from_at : (k q i : ℕ) → i < k → get_or (map byte (letters_from n v k q)) i 0 ≡ printed (q + i)
  unfolding letters_from
  from_at zero q i h = absurd (not-suc-le-zero h)
  from_at (suc k) q zero h = ap printed (sym (add-zero q))
  from_at (suc k) q (suc i) h = from_at k (suc q) i (le_of_suc-le-suc h) ∙ ap printed (suc-add q i ∙ sym (add-suc q i))

  pub spelling_length : length (spelling n v) ≡ n
  unfolding spelling letters
  spelling_length = from_length n 0

  -- its z among the columns from n up
  pub spelling_at : (q : ℕ) → q < n → byte (letter (bit q v) (bit q (v / 2 ^ n))) ≡ get_or (spelling n v) q 0
  unfolding spelling letters
  spelling_at q h = ap (λ t. byte (letter (bit q v) t)) (bit_down n q v) ∙ sym (from_at n 0 q h ∙ ap printed (zero-add q))
