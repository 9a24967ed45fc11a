-- The front of words that is lent, and what has come back of it: of a local array, and of words that are lent themselves.
-- Assumes nothing.
use mathlib.Core.Path.{◌≡◌, refl, sym, ap, ap₂, ◌∙◌}
use mathlib.Core.List.{List, ◌++◌}
use Prim.Native.Nat.{ℕ, ◌-◌, ◌≤◌, min}
use native.Mathlib.Omega.{arith}
use lib.ListN.{length, take, drop, replicate, length-append, length-drop, take-append-drop}
use lib.Seq.{take_all, take_at, drop_at}
use Rattle.blocks.specs.Words.{rows_in_lem, words_for, over}
use Rattle.blocks.proofs.Lent.{lent_within, lent_front, lent_rest, lent_same}
use Rattle.blocks.proofs.Overs.{over_end}
use Rattle.symplectic.proofs.Work.{room_in_lem, part_words, part_rows}

-- ---- an array of zero words, of which `to` words hold k rows

module _ (k most to : ℕ) (at : to ≡ min (words_for k) (length {A = ℕ} (replicate most 0))) where
  abbrev words : List ℕ
  words = replicate most 0

  pub lent_count : to ≡ length (take to words)
  lent_count = part_words k to words at

  pub lent_rows : k ≤ most → length (rows_in_lem (take to words)) ≡ k
  lent_rows fits = part_rows k to words at (room_in_lem most k fits)

  module _ (left : List ℕ) (kept : length left ≡ length (take to words)) where
    pub left_room : to ≤ length (left ++ drop to words)
    left_room = omega (arith, length-append left (drop to words), lent_count)

    left_part : take to (left ++ drop to words) ≡ left
    left_part = take_at left (drop to words) to (kept ∙ sym lent_count)

    pub left_count : to ≡ length (take to (left ++ drop to words))
    left_count = sym (ap length left_part ∙ kept ∙ sym lent_count)

-- ---- lent words, of which `to` words hold the first k rows

module _ (k to : ℕ) (ws : List ℕ) (at : to ≡ min (words_for k) (length ws)) (h : k ≤ length (rows_in_lem ws)) (left : List ℕ) (kept : length left ≡ length (take to ws)) where
  abbrev back : List ℕ
  back = left ++ drop to ws

  ends : length left ≡ to
  ends = kept ∙ sym (part_words k to ws at)

  back_length : length back ≡ length ws
  back_length = omega (arith, length-append left (drop to ws), length-drop to ws, ends, lent_within k to ws at)

  still : to ≡ min (words_for k) (length back)
  still = at ∙ ap (min (words_for k)) (sym back_length)

  back_front : take k (rows_in_lem back) ≡ rows_in_lem left
  back_front = sym (lent_front k to back still) ∙ ap (λ (l : List ℕ). rows_in_lem l) (take_at left (drop to ws) to ends)

  back_rest : drop k (rows_in_lem back) ≡ drop k (rows_in_lem ws)
  back_rest =
      let n = length ws - to in
      sym (lent_rest k to back still n (ap (λ (m : ℕ). m - to) (sym back_length)))
      ∙ ap (λ (l : List ℕ). rows_in_lem (take n l)) (drop_at left (drop to ws) to ends) ∙ lent_rest k to ws at n refl

  -- the rows that came back stand over the others
  pub put_back : rows_in_lem back ≡ over (rows_in_lem left) (rows_in_lem ws)
  put_back =
      let size = lent_same left (take to ws) kept ∙ part_rows k to ws at h in
      sym (take-append-drop k (rows_in_lem back)) ∙ ap₂ (λ (x y : List ℕ). x ++ y) (back_front ∙ sym (take_all k (rows_in_lem left) (omega (arith, size)))) back_rest
      ∙ over_end (rows_in_lem left) (rows_in_lem ws) k (omega (arith, size))
