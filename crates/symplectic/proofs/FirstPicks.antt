-- The choices of `pick` by indices, as a loop finds them: what is passed over, what is found, and the end of the list.
-- What has been shown of the indices below i grows by `below_more` of borrow.Author.Count; or a loop keeps that the choice is that from index i on.
-- Assumes nothing.
use mathlib.Core.Path.{◌≡◌, refl, sym, ap, ◌∙◌}
use mathlib.Core.Bool.{Bool, true, false}
use mathlib.Core.List.{List, [], ◌∷◌}
use mathlib.Core.Option.{Option, none, some}
use mathlib.Core.Logic.{⊎_elim}
use Prim.Native.Nat.{ℕ, zero, suc, ◌+◌, ◌≤◌, ◌<◌}
use native.Mathlib.Nat.{le_refl, eq-or-lt_of_le}
use native.Mathlib.Numerals.{add-one}
use native.Mathlib.Omega.{arith}
use lib.ListN.{length, get_or, drop, drop_of_length-le}
use lib.Seq.{drop-cons}
use Rattle.binar.specs.Bits.{◌⊻◌}
use Rattle.symplectic.specs.Picks.{or_if, or_else, first_one_lem, uneven_with_lem, first_uneven_lem, pick}

-- one member more
pub drop_open : {A : Type 0} (l : List A) (i : ℕ) (d : A) → i < length l → drop i l ≡ get_or l i d ∷ drop (i + 1) l
drop_open l i d h = drop-cons l i d h ∙ ap (λ k. get_or l i d ∷ drop k l) (sym (add-one i))

-- ---- the first member that passes a test, taken through a map

module _ {A B : Type 0} (t : A → Bool) (g : A → B) where
  unfoldable pub first_by : List A → Option B
  first_by [] = none
  first_by (x ∷ xs) = or_if (t x) (g x) (first_by xs)

  module _ (l : List A) (d : A) where
    pub by_skip : (i : ℕ) → i < length l → t (get_or l i d) ≡ false → first_by (drop i l) ≡ first_by (drop (i + 1) l)
    unfolding first_by
    by_skip i h e = ap first_by (drop_open l i d h) ∙ ap (λ b. or_if b (g (get_or l i d)) (first_by (drop (i + 1) l))) e

    pub by_here : (i : ℕ) → i < length l → t (get_or l i d) ≡ true → first_by (drop i l) ≡ some (g (get_or l i d))
    unfolding first_by
    by_here i h e = ap first_by (drop_open l i d h) ∙ ap (λ b. or_if b (g (get_or l i d)) (first_by (drop (i + 1) l))) e

    pub by_end : (i : ℕ) → length l ≤ i → first_by (drop i l) ≡ none
    unfolding first_by
    by_end i h = ap first_by (drop_of_length-le l h)

    -- none from s on and below i
    by_skips : (s i : ℕ) → s ≤ i → i ≤ length l → ((k : ℕ) → k < i → s ≤ k → t (get_or l k d) ≡ false) → first_by (drop s l) ≡ first_by (drop i l)
    by_skips s zero h b f = let e : s ≡ 0 = omega arith in ap (λ k. first_by (drop k l)) e
    by_skips s (suc i) h b f =
        ⊎_elim (λ e. ap (λ k. first_by (drop k l)) e)
        (λ m. by_skips s i (omega arith) (omega arith) (λ k j r. f k (omega arith) r) ∙ by_skip i b (f i (le_refl (suc i)) (omega arith)) ∙ ap (λ k. first_by (drop k l)) (add-one i))
        (eq-or-lt_of_le h)

    pub by_none : (s : ℕ) → s ≤ length l → ((k : ℕ) → k < length l → s ≤ k → t (get_or l k d) ≡ false) → first_by (drop s l) ≡ none
    by_none s h f = by_skips s (length l) h (le_refl (length l)) f ∙ by_end (length l) (le_refl (length l))

-- ---- the first member with form one with itself, and the first two whose forms differ

module _ {A : Type 0} (add : A → A → A) (E : A → A → Bool) where
  -- the two forms differ
  abbrev pub uneven : A → A → Bool
  uneven x y = E x y ⊻ E y x

  one_by : (l : List A) → first_one_lem add E l ≡ first_by (λ b. E b b) (λ b. b) l
  unfolding first_one_lem first_by
  one_by [] = refl
  one_by (b ∷ bs) = ap (or_if (E b b) b) (one_by bs)

  with_by : (b : A) (l : List A) → uneven_with_lem add E b l ≡ first_by (uneven b) (add b) l
  unfolding uneven_with_lem first_by
  with_by b [] = refl
  with_by b (y ∷ ys) = ap (or_if (E b y ⊻ E y b) (add b y)) (with_by b ys)

  module _ (l : List A) (d : A) where
    pub first_one_skip : (i : ℕ) → i < length l → E (get_or l i d) (get_or l i d) ≡ false → first_one_lem add E (drop i l) ≡ first_one_lem add E (drop (i + 1) l)
    first_one_skip i h e = one_by (drop i l) ∙ by_skip (λ b. E b b) (λ b. b) l d i h e ∙ sym (one_by (drop (i + 1) l))

    pub first_one_here : (i : ℕ) → i < length l → E (get_or l i d) (get_or l i d) ≡ true → first_one_lem add E (drop i l) ≡ some (get_or l i d)
    first_one_here i h e = one_by (drop i l) ∙ by_here (λ b. E b b) (λ b. b) l d i h e

    pub first_one_end : (i : ℕ) → length l ≤ i → first_one_lem add E (drop i l) ≡ none
    first_one_end i h = one_by (drop i l) ∙ by_end (λ b. E b b) (λ b. b) l d i h

    -- b with the members from j on
    pub uneven_with_skip : (b : A) (j : ℕ) → j < length l → uneven b (get_or l j d) ≡ false → uneven_with_lem add E b (drop j l) ≡ uneven_with_lem add E b (drop (j + 1) l)
    uneven_with_skip b j h e = with_by b (drop j l) ∙ by_skip (uneven b) (add b) l d j h e ∙ sym (with_by b (drop (j + 1) l))

    pub uneven_with_here : (b : A) (j : ℕ) → j < length l → uneven b (get_or l j d) ≡ true → uneven_with_lem add E b (drop j l) ≡ some (add b (get_or l j d))
    uneven_with_here b j h e = with_by b (drop j l) ∙ by_here (uneven b) (add b) l d j h e

    pub uneven_with_end : (b : A) (j : ℕ) → length l ≤ j → uneven_with_lem add E b (drop j l) ≡ none
    uneven_with_end b j h = with_by b (drop j l) ∙ by_end (uneven b) (add b) l d j h

    -- member i with those behind it, and then the members behind i
    pub first_uneven_open : (i : ℕ) → i < length l
        → first_uneven_lem add E (drop i l) ≡ or_else (uneven_with_lem add E (get_or l i d) (drop (i + 1) l)) (first_uneven_lem add E (drop (i + 1) l))
    unfolding first_uneven_lem
    first_uneven_open i h = ap (first_uneven_lem add E) (drop_open l i d h)

    pub first_uneven_skip : (i : ℕ) → i < length l → uneven_with_lem add E (get_or l i d) (drop (i + 1) l) ≡ none
        → first_uneven_lem add E (drop i l) ≡ first_uneven_lem add E (drop (i + 1) l)
    first_uneven_skip i h e = first_uneven_open i h ∙ ap (λ w. or_else w (first_uneven_lem add E (drop (i + 1) l))) e

    pub first_uneven_here : (i : ℕ) (p : A) → i < length l → uneven_with_lem add E (get_or l i d) (drop (i + 1) l) ≡ some p → first_uneven_lem add E (drop i l) ≡ some p
    first_uneven_here i p h e = first_uneven_open i h ∙ ap (λ w. or_else w (first_uneven_lem add E (drop (i + 1) l))) e

    pub first_uneven_end : (i : ℕ) → length l ≤ i → first_uneven_lem add E (drop i l) ≡ none
    unfolding first_uneven_lem
    first_uneven_end i h = ap (first_uneven_lem add E) (drop_of_length-le l h)

    -- member k is even with each behind it
    abbrev pub Behind : ℕ → Type 0
    Behind k = (m : ℕ) → m < length l → k < m → uneven (get_or l k d) (get_or l m d) ≡ false

    uneven_skips : (i : ℕ) → i ≤ length l → ((k : ℕ) → k < i → Behind k) → first_uneven_lem add E l ≡ first_uneven_lem add E (drop i l)
    uneven_skips zero h f = refl
    uneven_skips (suc i) h f =
        uneven_skips i (omega arith) (λ k m. f k (omega arith))
        ∙ first_uneven_skip i h (with_by (get_or l i d) (drop (i + 1) l) ∙ by_none (uneven (get_or l i d)) (add (get_or l i d)) l d (i + 1) (omega arith) (λ m j s. f i (le_refl (suc i)) m j (omega arith)))
        ∙ ap (λ k. first_uneven_lem add E (drop k l)) (add-one i)

  -- the choice
  pub pick_of_one : (l : List A) (p : A) → first_one_lem add E l ≡ some p → pick add E l ≡ some p
  unfolding pick
  pick_of_one l p e = ap (λ w. or_else w (first_uneven_lem add E l)) e

  pub pick_of_uneven : (l : List A) → first_one_lem add E l ≡ none → pick add E l ≡ first_uneven_lem add E l
  unfolding pick
  pick_of_uneven l e = ap (λ w. or_else w (first_uneven_lem add E l)) e
