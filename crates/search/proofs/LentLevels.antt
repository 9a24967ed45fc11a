-- The levels of a search in lent rows: their room, what is put behind one, the rows as they come back, and the draws that are kept.
-- Assumes nothing.
use mathlib.Core.Path.{◌≡◌, refl, sym, ap, ap₂, ◌∙◌, subst}
use mathlib.Core.List.{List, [], ◌∷◌, ◌++◌}
use Prim.Native.Nat.{ℕ, zero, suc, ◌+◌, ◌-◌, ◌≤◌, ◌<◌}
use native.Mathlib.Nat.{add-zero, zero-add, suc-add, le_refl}
use native.Mathlib.Omega.{arith}
use lib.ListN.{length, get_or, set, take, drop, length-drop}
use lib.Seq.{drop-drop, get_or-take, get_or-drop, get_or-set_same, take-take, length-take-le, ext_get_or, take-append-le, take-set-le, drop-set-lt, take-add, drop_at}
use Rattle.blocks.specs.Matrices.{times}
use Rattle.search.specs.inner.Levels.{levels, found_in}

-- ---- room

pub levels_step : (d : ℕ) → 0 < d → levels d ≡ d + d + levels (d - 1)
unfolding levels
levels_step zero h = absurd (omega arith)
levels_step (suc d) h = let e : suc d - 1 ≡ d = omega arith in ap (λ n. suc d + suc d + levels n) (sym e)

pub levels_least : (d : ℕ) → d + d ≤ levels d
unfolding levels
levels_least zero = omega arith
levels_least (suc d) = omega arith

-- what is passed on has room behind its level
pub levels_behind : (d : ℕ) → 0 < d → d + d + (d - 1) ≤ levels d
levels_behind d h = omega (arith, levels_step d h, levels_least (d - 1))

levels_more : (k d : ℕ) → levels d ≤ levels (k + d)
unfolding levels
levels_more zero d = subst (λ n. levels d ≤ levels n) (sym (zero-add d)) (le_refl (levels d))
levels_more (suc k) d = subst (λ n. levels d ≤ levels n) (sym (suc-add k d)) (le_of (levels_more k d))
  where
    le_of : levels d ≤ levels (k + d) → levels d ≤ levels (suc (k + d))
    le_of h = omega arith

pub levels_mono : (d e : ℕ) → d ≤ e → levels d ≤ levels e
levels_mono d e h = let s : e - d + d ≡ e = omega arith in subst (λ n. levels d ≤ levels n) s (levels_more (e - d) d)

pub levels_8 : levels 8 ≡ 72
unfolding levels
levels_8 = refl

pub levels_16 : levels 16 ≡ 272
unfolding levels
levels_16 = refl

pub levels_32 : levels 32 ≡ 1056
unfolding levels
levels_32 = refl

pub levels_64 : levels 64 ≡ 4160
unfolding levels
levels_64 = refl

-- ---- rows of which the front stays

pub front_get : (n : ℕ) (a b : List ℕ) → take n a ≡ take n b → (i : ℕ) → i < n → get_or a i 0 ≡ get_or b i 0
front_get n a b e i h = sym (get_or-take n a i 0 h) ∙ ap (λ l. get_or l i 0) e ∙ get_or-take n b i 0 h

pub front_less : (m n : ℕ) (a b : List ℕ) → m ≤ n → take n a ≡ take n b → take m a ≡ take m b
front_less m n a b h e = sym (take-take m n a h) ∙ ap (take m) e ∙ take-take m n b h

-- those behind the first n
pub behind_front : (n m : ℕ) (a b : List ℕ) → n ≤ length a → n ≤ length b → take (n + m) a ≡ take (n + m) b → take m (drop n a) ≡ take m (drop n b)
behind_front n m a b h k e =
    sym (drop_at (take n a) (take m (drop n a)) n (length-take-le n a h)) ∙ ap (drop n) (sym (take-add n m a) ∙ e ∙ take-add n m b)
    ∙ drop_at (take n b) (take m (drop n b)) n (length-take-le n b k)

-- a read of one of the first d
-- the rows from n on, each given by its place
pub level_rows : (k n : ℕ) (w L : List ℕ) → n + k ≤ length w → length L ≡ k → ((i : ℕ) → i < k → get_or w (n + i) 0 ≡ get_or L i 0) → take k (drop n w) ≡ L
level_rows k n w L long size rows = ext_get_or 0 (take k (drop n w)) L (count ∙ sym size) (λ i l. let g : i < k = omega (arith, count) in get_or-take k (drop n w) i 0 g ∙ get_or-drop n w i 0 ∙ rows i g)
  where
    count : length (take k (drop n w)) ≡ k
    count = length-take-le k (drop n w) (omega (arith, length-drop n w))

-- ---- the rows as they come back: the first n as they were, ys for those behind

module _ (n : ℕ) (xs ys : List ℕ) (inside : n ≤ length xs) where
  pub back_front : (m : ℕ) → m ≤ n → take m (take n xs ++ ys) ≡ take m xs
  back_front m h =
      let e : length (take n xs) ≡ n = length-take-le n xs inside in
      take-append-le m (take n xs) ys (omega arith) ∙ take-take m n xs h

  pub back_rest : drop n (take n xs ++ ys) ≡ ys
  back_rest = drop_at (take n xs) ys n (length-take-le n xs inside)

-- ---- the draws that are kept

pub found_none : (d : ℕ) (w : List ℕ) → d ≡ 0 → found_in d w ≡ []
unfolding found_in
found_none zero w e = refl
found_none (suc d) w e = absurd (omega arith)

pub found_step : (d : ℕ) (w : List ℕ) → 0 < d → found_in d w ≡ times (get_or w d 0) (take d w) ∷ found_in (d - 1) (drop (d + d) w)
unfolding found_in
found_step zero w h = absurd (omega arith)
found_step (suc d) w h = let e : suc d - 1 ≡ d = omega arith in ap (λ n. times (get_or w (suc d) 0) (take (suc d) w) ∷ found_in n (drop (suc d + suc d) w)) (sym e)

-- a draw c kept behind the members
pub found_kept : (d c : ℕ) (xs w : List ℕ) → 0 < d → d + d ≤ length xs → w ≡ set xs d c → found_in d w ≡ times c (take d xs) ∷ found_in (d - 1) (drop (d + d) xs)
found_kept d c xs w pos long kept =
    found_step d w pos
    ∙ ap₂ (λ x l. x ∷ found_in (d - 1) l)
    (ap₂ times (ap (λ l. get_or l d 0) kept ∙ get_or-set_same xs d c 0 (omega arith)) (ap (take d) kept ∙ take-set-le d xs d c (le_refl d)))
    (ap (drop (d + d)) kept ∙ drop-set-lt (d + d) xs d c (omega arith))

pub found_length : (k : ℕ) (w : List ℕ) → length (found_in k w) ≡ k
unfolding found_in
found_length zero w = refl
found_length (suc k) w = ap suc (found_length k (drop (suc k + suc k) w))

-- one after the other: i are taken, and those of the level from row `at` on are left
module _ (k i at : ℕ) (w : List ℕ) (some : i < k) (left : drop i (found_in k w) ≡ found_in (k - i) (drop at w)) where
  step : drop i (found_in k w) ≡ times (get_or (drop at w) (k - i) 0) (take (k - i) (drop at w)) ∷ found_in (k - i - 1) (drop (k - i + (k - i)) (drop at w))
  step = left ∙ found_step (k - i) (drop at w) (omega arith)

  pub collect_draw : times (get_or (drop at w) (k - i) 0) (take (k - i) (drop at w)) ≡ get_or (found_in k w) i 0
  collect_draw = sym (ap (λ n. get_or (found_in k w) n 0) (sym (add-zero i)) ∙ sym (get_or-drop i (found_in k w) 0 0) ∙ ap (λ l. get_or l 0 0) step)

  pub collect_next : drop (i + 1) (found_in k w) ≡ found_in (k - (i + 1)) (drop (at + (k - i) + (k - i)) w)
  collect_next =
      let e : k - i - 1 ≡ k - (i + 1) = omega arith in
      let f : at + (k - i + (k - i)) ≡ at + (k - i) + (k - i) = omega arith in
      sym (drop-drop 1 i (found_in k w)) ∙ ap (drop 1) step ∙ ap₂ found_in e (drop-drop (k - i + (k - i)) at w ∙ ap (λ n. drop n w) f)
