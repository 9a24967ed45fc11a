-- The turns that lent words keep, read from the last to the first.
-- Assumes nothing.
use mathlib.Core.Path.{◌≡◌, sym, ap, ◌∙◌}
use mathlib.Core.List.{List, [], ◌∷◌, reverse, reverse-cons}
use mathlib.Core.Logic.{⊎_elim}
use Prim.Native.Nat.{ℕ, suc, ◌-◌, ◌≤◌, ◌<◌}
use native.Mathlib.Nat.{not-suc-le-zero, le_of_suc-le-suc, eq-or-lt_of_le}
use native.Mathlib.Omega.{arith}
use lib.ListN.{length, get_or, take, length-reverse, get_or-append}
use lib.Seq.{get_or-take, get_or_at, length-take-le}

-- the turn after the first i
pub reverse_at : (l : List ℕ) (i : ℕ) → i < length l → get_or (reverse l) i 0 ≡ get_or l (length l - 1 - i) 0
reverse_at [] i h = absurd (not-suc-le-zero h)
reverse_at (x ∷ l) i h =
    ap (λ (m : List ℕ). get_or m i 0) (reverse-cons x l)
    ∙ ⊎_elim
    (λ (e : i ≡ length l).
    let z : suc (length l) - 1 - i ≡ 0 = omega arith in
    get_or_at (reverse l) x [] 0 i (length-reverse l ∙ sym e) ∙ sym (ap (λ (k : ℕ). get_or (x ∷ l) k 0) z))
    (λ (k : i < length l).
    let z : suc (length l) - 1 - i ≡ suc (length l - 1 - i) = omega arith in
    get_or-append (reverse l) (x ∷ []) 0 i (omega (arith, length-reverse l)) ∙ reverse_at l i k ∙ sym (ap (λ (k : ℕ). get_or (x ∷ l) k 0) z))
    (eq-or-lt_of_le (le_of_suc-le-suc h))

module _ (l : List ℕ) (count : ℕ) (fits : count ≤ length l) where
  -- of the first turns as many as are counted
  pub back_length : length (reverse (take count l)) ≡ count
  back_length = length-reverse (take count l) ∙ length-take-le count l fits

  -- turn i from the end
  pub back_at : (i : ℕ) → i < count → get_or l (count - 1 - i) 0 ≡ get_or (reverse (take count l)) i 0
  back_at i h =
      let n = length-take-le count l fits in
      sym (get_or-take count l (count - 1 - i) 0 (omega arith)) ∙ ap (λ (k : ℕ). get_or (take count l) (k - 1 - i) 0) (sym n)
      ∙ sym (reverse_at (take count l) i (omega arith))
