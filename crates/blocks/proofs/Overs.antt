-- Rows put over others from their start: one by one, as far as there is room, and what they are then.
-- Assumes nothing.
use mathlib.Core.Path.{◌≡◌, refl, sym, ap, ap₂, ◌∙◌}
use mathlib.Core.List.{List, [], ◌∷◌, ◌++◌, append-nil}
use Prim.Native.Nat.{ℕ, zero, suc, ◌+◌, ◌-◌, ◌≤◌, ◌<◌, min}
use native.Mathlib.Nat.{le_refl, le_of_suc-le-suc, not-suc-le-zero}
use native.Mathlib.Numerals.{add-one}
use native.Mathlib.Omega.{arith}
use lib.ListN.{length, get_or, set, take, drop, length-append, length-drop, length-take, drop_of_length-le}
use lib.Seq.{take_all, take_at, take-suc, set_at, drop-cons, append_snoc, length-take-le, get_or-append-add, get_or-drop, get_or-take}
use Rattle.blocks.specs.Words.{over}

-- ---- the first i members of m before the others of l, of any kind

module _ {A : Type 0} (d : A) (m l : List A) where
  -- one more
  pub over_more : (i : ℕ) → i < length m → i < length l → set (take i m ++ drop i l) i (get_or m i d) ≡ take (i + 1) m ++ drop (i + 1) l
  over_more i hm hl =
      let n : length (take i m) ≡ i = length-take-le i m (omega arith) in
      ap (λ (x : List A). set (take i m ++ x) i (get_or m i d)) (drop-cons l i d hl) ∙ set_at (take i m) (get_or l i d) (drop (suc i) l) (get_or m i d) i n
      ∙ sym (append_snoc (take i m) (get_or m i d) (drop (suc i) l))
      ∙ ap₂ (λ (x y : List A). x ++ y) (sym (ap (λ (k : ℕ). take k m) (add-one i) ∙ take-suc m i d hm)) (ap (λ (k : ℕ). drop k l) (sym (add-one i)))

  -- those behind are as they were
  pub over_left : (x : List A) (n i : ℕ) → x ≡ take n m ++ drop n l → n ≤ length m → n ≤ i → get_or x i d ≡ get_or l i d
  over_left x n i is h k =
      let size = length-take-le n m h in
      let e : i ≡ length (take n m) + (i - n) = omega arith in
      let same : n + (i - n) ≡ i = omega arith in
      ap₂ (λ (y : List A) (j : ℕ). get_or y j d) is e ∙ get_or-append-add (take n m) (drop n l) (i - n) d ∙ get_or-drop n l (i - n) d ∙ ap (λ (j : ℕ). get_or l j d) same

  -- all of them
  pub over_whole : (i : ℕ) → length m ≤ i → length l ≤ i → take i m ++ drop i l ≡ m
  over_whole i h g = ap₂ (λ (x y : List A). x ++ y) (take_all i m h) (drop_of_length-le l g) ∙ append-nil m

-- ---- rows put over others

pub over_length : (rows out : List ℕ) → length (over rows out) ≡ length out
unfolding over
over_length rows out = length-take (length out) (rows ++ drop (length rows) out) ∙ omega (arith, length-append rows (drop (length rows) out), length-drop (length rows) out)

-- as many as were put
pub over_front : (rows out : List ℕ) → length rows ≤ length out → take (length rows) (over rows out) ≡ rows
unfolding over
over_front rows out h =
    ap (take (length rows)) (take_all (length out) (rows ++ drop (length rows) out) (omega (arith, length-append rows (drop (length rows) out), length-drop (length rows) out)))
    ∙ take_at rows (drop (length rows) out) (length rows) refl

pub over_nil : (out : List ℕ) → over [] out ≡ out
unfolding over
over_nil out = take_all (length out) out (le_refl (length out))

pub over_next : (rows out x : List ℕ) (i v : ℕ) → i < length rows → i < length out → x ≡ take i rows ++ drop i out → v ≡ get_or rows i 0
    → set x i v ≡ take (i + 1) rows ++ drop (i + 1) out
over_next rows out x i v h g is e = ap₂ (λ (y : List ℕ) (u : ℕ). set y i u) is e ∙ over_more 0 rows out i h g

pub over_end : (rows out : List ℕ) (k : ℕ) → k ≡ min (length rows) (length out) → take k rows ++ drop k out ≡ over rows out
unfolding over
over_end [] out zero e = sym (over_nil out)
over_end [] out (suc k) e = absurd (omega arith)
over_end (r ∷ rows) [] zero e = refl
over_end (r ∷ rows) [] (suc k) e = absurd (omega arith)
over_end (r ∷ rows) (w ∷ out) zero e = absurd (omega arith)
over_end (r ∷ rows) (w ∷ out) (suc k) e = ap (λ (m : List ℕ). r ∷ m) (over_end rows out k (omega arith))

-- as many as there are
pub over_same : (rows out : List ℕ) → length rows ≡ length out → over rows out ≡ rows
over_same rows out e =
    sym (over_end rows out (length rows) (omega arith)) ∙ over_whole 0 rows out (length rows) (le_refl (length rows)) (omega arith)

pub over_no_room : (rows : List ℕ) → over rows [] ≡ []
unfolding over
over_no_room rows = refl

-- one more of the first i, as far as there is room
pub over_put : (rows out : List ℕ) (i : ℕ) → i < length rows → set (over (take i rows) out) i (get_or rows i 0) ≡ over (take (suc i) rows) out
unfolding over
over_put [] out i h = absurd (not-suc-le-zero h)
over_put (r ∷ rows) [] i h = refl
over_put (r ∷ rows) (w ∷ out) zero h = ap (λ (l : List ℕ). set l 0 r) (over_nil (w ∷ out)) ∙ ap (λ (l : List ℕ). r ∷ l) (sym (over_nil out))
over_put (r ∷ rows) (w ∷ out) (suc i) h = ap (λ (l : List ℕ). r ∷ l) (over_put rows out i (le_of_suc-le-suc h))

pub over_at : (rows out : List ℕ) → length rows ≤ length out → (i : ℕ) → i < length rows → get_or (over rows out) i 0 ≡ get_or rows i 0
over_at rows out room i h = sym (get_or-take (length rows) (over rows out) i 0 h) ∙ ap (λ (l : List ℕ). get_or l i 0) (over_front rows out room)
