-- What stands in lent rows once sums are put behind a level, or what a draw passes on, as far as there is room.
-- Assumes nothing.
use mathlib.Core.Path.{◌≡◌, sym, ap, ◌∙◌}
use mathlib.Core.List.{List, [], map}
use Prim.Native.Nat.{ℕ, suc, ◌+◌, ◌-◌, ◌^◌, ◌≤◌, ◌<◌}
use native.Mathlib.Nat.{le_refl}
use borrow.Author.Tests.{le-leb, lt-leb}
use lib.ListN.{length, get_or, take}
use Rattle.binar.specs.Bits.{select}
use Rattle.binar.specs.Rows.{width}
use Rattle.blocks.specs.Matrices.{times}
use Rattle.spaces.specs.Levels.{below, over_from, counted, sum_to, summed, shrunk, passed_at, gram_at, members_passed, gram_passed}
use Rattle.spaces.proofs.Behind.{from_start, from_end, from_front, from_at}
use Rattle.spaces.proofs.Rows.{sum_is, gram_is}

-- ---- as many members as count

pub counted_is : (d : ℕ) → d ≤ width → counted d ≡ d
unfolding counted
counted_is d fits = ap (λ b. select 0 b d) (le-leb d width fits)

counted_none : (d : ℕ) → width < d → counted d ≡ 0
unfolding counted
counted_none d over = ap (λ b. select 0 b d) (lt-leb d width over)

-- where none count, nothing is put
none_put : (f : ℕ → ℕ) (w : List ℕ) → over_from 0 (map f (below 0)) w ≡ w
none_put f w = sym (from_end 0 f 0 w 0 (le_refl 0)) ∙ sym (from_start 0 f 0 w)

module _ (d : ℕ) (w : List ℕ) (over : width < d) where
  pub sums_none : w ≡ summed (counted d) w
  unfolding summed
  sums_none = sym (ap (λ n. summed n w) (counted_none d over) ∙ none_put (sum_to (take 0 w)) w)

  pub passed_none : (h j : ℕ) (f : ℕ → ℕ) → w ≡ over_from (counted d + counted d) (map (λ i. f (passed_at h j (take (counted d) w) i)) (below (counted d - 1))) w
  passed_none h j f =
      sym (ap (λ n. over_from (n + n) (map (λ i. f (passed_at h j (take n w) i)) (below (n - 1))) w) (counted_none d over) ∙ none_put (λ i. f (passed_at h j [] i)) w)

module _ (d : ℕ) (w w' : List ℕ) (fits : d ≤ width) where
  -- ---- sums

  module _ (is : w' ≡ summed (counted d) w) where
    put : w' ≡ over_from d (map (sum_to (take d w)) (below d)) w
    unfolding summed
    put = is ∙ ap (λ n. summed n w) (counted_is d fits)

    pub sums_front : take d w' ≡ take d w
    sums_front = ap (take d) put ∙ from_front d (map (sum_to (take d w)) (below d)) w d (le_refl d)

    pub sums_at : d + d ≤ length w → (i : ℕ) → i < d → get_or w' (d + i) 0 ≡ times (2 ^ suc i - 1) (take d w)
    sums_at room i h = ap (λ l. get_or l (d + i) 0) put ∙ from_at d (sum_to (take d w)) d w room i h ∙ sum_is (take d w) i

  -- ---- what a draw passes on

  module _ (h j : ℕ) where
    module _ (is : w' ≡ members_passed h j (counted d) w) where
      members_put : w' ≡ over_from (d + d) (map (passed_at h j (take d w)) (below (d - 1))) w
      unfolding members_passed
      members_put = is ∙ ap (λ n. members_passed h j n w) (counted_is d fits)

      pub members_front : take (d + d) w' ≡ take (d + d) w
      members_front = ap (take (d + d)) members_put ∙ from_front (d + d) (map (passed_at h j (take d w)) (below (d - 1))) w (d + d) (le_refl (d + d))

      pub members_at : d + d + (d - 1) ≤ length w → (i : ℕ) → i < d - 1 → get_or w' (d + d + i) 0 ≡ passed_at h j (take d w) i
      members_at room i l = ap (λ m. get_or m (d + d + i) 0) members_put ∙ from_at (d + d) (passed_at h j (take d w)) (d - 1) w room i l

    module _ (is : w' ≡ gram_passed h j (counted d) w) where
      gram_put : w' ≡ over_from (d + d) (map (gram_at h j (take d w)) (below (d - 1))) w
      unfolding gram_passed
      gram_put = is ∙ ap (λ n. gram_passed h j n w) (counted_is d fits)

      pub gram_front : take (d + d) w' ≡ take (d + d) w
      gram_front = ap (take (d + d)) gram_put ∙ from_front (d + d) (map (gram_at h j (take d w)) (below (d - 1))) w (d + d) (le_refl (d + d))

      pub gram_at_lem : d + d + (d - 1) ≤ length w → (i : ℕ) → i < d - 1 → get_or w' (d + d + i) 0 ≡ shrunk j h (passed_at h j (take d w) i)
      gram_at_lem room i l = ap (λ m. get_or m (d + d + i) 0) gram_put ∙ from_at (d + d) (gram_at h j (take d w)) (d - 1) w room i l ∙ gram_is h j (take d w) i
