-- The figures that a call answers and the words that it leaves, where it is lent the first k of more blank words.
-- Assumes nothing.
use mathlib.Core.Path.{◌≡◌, refl, sym, ap, ◌∙◌}
use mathlib.Core.List.{List, ◌∷◌, ◌++◌}
use Prim.Native.Nat.{ℕ, zero, suc, ◌≤◌}
use native.Mathlib.Omega.{arith}
use lib.ListN.{length, take, drop, replicate, length-append, length-replicate}
use lib.Seq.{take_at, length-take-le}
use Rattle.questions.specs.declared.Figures.{Figures}
use Rattle.questions.specs.Replies.{Reply}
use Rattle.printout.specs.Printout.{blank_words}

blank_front : (k room : ℕ) → k ≤ room → take {A = ℕ} k (replicate room 0) ≡ blank_words k
blank_front zero room h = refl
blank_front (suc k) zero h = absurd (omega arith)
blank_front (suc k) (suc room) h = ap (λ (l : List ℕ). 0 ∷ l) (blank_front k room (omega arith))

module _ (k room : ℕ) (fits : k ≤ room) where
  pub lent_length : k ≡ length (take {A = ℕ} k (replicate room 0))
  lent_length = sym (length-take-le k (replicate room 0) enough)
    where
      enough : k ≤ length {A = ℕ} (replicate room 0)
      enough = omega (arith, length-replicate {A = ℕ} room 0)

  pub lent_figures : (call : List ℕ → Reply) (t : Figures) → t ≡ (call (take k (replicate room 0))).figures → t ≡ (call (blank_words k)).figures
  lent_figures call t e = e ∙ ap (λ (out : List ℕ). (call out).figures) (blank_front k room fits)

  -- the words left are as many as were lent
  module _ (left : List ℕ) (kept : length left ≡ length (take {A = ℕ} k (replicate room 0))) where
    left_length : length left ≡ k
    left_length = kept ∙ sym lent_length

    pub left_room : k ≤ length (left ++ drop k (replicate room 0))
    left_room = omega (arith, length-append left (drop k (replicate room 0)), left_length)

    front : take k (left ++ drop k (replicate room 0)) ≡ left
    front = take_at left (drop k (replicate room 0)) k left_length

    pub left_count : k ≡ length (take k (left ++ drop k (replicate room 0)))
    left_count = sym (ap length front ∙ left_length)

    pub left_words : (call : List ℕ → Reply) → left ≡ (call (take k (replicate room 0))).words → take k (left ++ drop k (replicate room 0)) ≡ (call (blank_words k)).words
    left_words call is = front ∙ is ∙ ap (λ (out : List ℕ). (call out).words) (blank_front k room fits)
