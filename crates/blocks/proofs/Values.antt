-- The first members of a list, a member written or taken out; rows laid into lent words, and lent words as rows.
-- Assumes nothing.
use mathlib.Core.Path.{◌≡◌, refl, sym, ap, ap₂, ◌∙◌}
use mathlib.Core.List.{List, [], ◌∷◌, ◌++◌, map, append-nil}
use Prim.Native.Nat.{ℕ, zero, suc, ◌+◌, ◌^◌, ◌≤◌, ◌<◌, min}
use native.Mathlib.Nat.{le_of_suc-le-suc, not-suc-le-zero, mod-eq_of_lt, lt_of_lt_of_le}
use native.Mathlib.Numerals.{add-one}
use native.Mathlib.Omega.{arith}
use lib.ListN.{get_or, set, length, take, drop, length-map, length-append, length-drop, drop_of_length-le}
use lib.Seq.{take_all, take_at, take-suc-set}
use lib.Pow.{pow_mono}
use Rattle.binar.specs.Rows.{width}
use Rattle.blocks.specs.Matrices.{All}
use Rattle.blocks.specs.inner.Lists.{without}
use Rattle.blocks.proofs.Overs.{over_more, over_end}
use Rattle.blocks.specs.Words.{over, rows_of_words, word_of, words_of_rows, laid}

-- the length of an array of structs, from that of the list mapped to what stands for its elements
pub unmapped : {X Y : Type 0} (f : X → Y) (l : List X) (n : ℕ) → length (map f l) ≡ n → length l ≡ n
unmapped f l n p = sym (length-map l f) ∙ p

-- ---- the first members of a list

-- a count by the length of what it counts
pub take_counted : (n : ℕ) (l : List ℕ) → take (length (take n l)) l ≡ take n l
take_counted zero l = refl
take_counted (suc n) [] = refl
take_counted (suc n) (x ∷ l) = ap (λ (m : List ℕ). x ∷ m) (take_counted n l)

-- a member written behind the first i
pub set_next : (l : List ℕ) (i v : ℕ) → i < length l → take (i + 1) (set l i v) ≡ take i l ++ (v ∷ [])
set_next l i v h = ap (λ (j : ℕ). take j (set l i v)) (add-one i) ∙ take-suc-set l i v h

-- a member of a map's results
pub map_get : {A B : Type 0} (f : A → B) (l : List A) (i : ℕ) (d : A) (e : B) → i < length l → get_or (map f l) i e ≡ f (get_or l i d)
map_get f [] i d e h = absurd (not-suc-le-zero h)
map_get f (x ∷ l) zero d e h = refl
map_get f (x ∷ l) (suc i) d e h = map_get f l i d e (le_of_suc-le-suc h)

-- ---- a member taken out

pub without_zero : {A : Type 0} (x : A) (l : List A) → without 0 (x ∷ l) ≡ l
unfolding without
without_zero x l = refl

pub without_suc : {A : Type 0} (i : ℕ) (x : A) (l : List A) → without (suc i) (x ∷ l) ≡ x ∷ without i l
unfolding without
without_suc i x l = refl

pub without_before : {A : Type 0} (i : ℕ) (l : List A) (n : ℕ) (d : A) → n < i → get_or (without i l) n d ≡ get_or l n d
unfolding without
without_before zero l n d h = absurd (not-suc-le-zero h)
without_before (suc i) [] n d h = refl
without_before (suc i) (x ∷ l) zero d h = refl
without_before (suc i) (x ∷ l) (suc n) d h = without_before i l n d (le_of_suc-le-suc h)

pub without_behind : {A : Type 0} (i : ℕ) (l : List A) (n : ℕ) (d : A) → i ≤ n → get_or (without i l) n d ≡ get_or l (suc n) d
unfolding without
without_behind zero [] n d h = refl
without_behind zero (x ∷ l) n d h = refl
without_behind (suc i) [] n d h = refl
without_behind (suc i) (x ∷ l) zero d h = absurd (not-suc-le-zero h)
without_behind (suc i) (x ∷ l) (suc n) d h = without_behind i l n d (le_of_suc-le-suc h)

pub without_length : {A : Type 0} (i : ℕ) (l : List A) → i < length l → suc (length (without i l)) ≡ length l
unfolding without
without_length i [] h = absurd (not-suc-le-zero h)
without_length zero (x ∷ l) h = refl
without_length (suc i) (x ∷ l) h = ap suc (without_length i l (le_of_suc-le-suc h))

-- ---- rows laid into words

pub words_length : (n : ℕ) (rows : List ℕ) → length (words_of_rows n rows) ≡ length rows
unfolding words_of_rows
words_length n rows = length-map rows word_of

pub words_get : (n : ℕ) (rows : List ℕ) (i : ℕ) → get_or (words_of_rows n rows) i 0 ≡ word_of (get_or rows i 0)
unfolding words_of_rows word_of
words_get n [] i = refl
words_get n (r ∷ rows) zero = refl
words_get n (r ∷ rows) (suc i) = words_get n rows i

-- the word of one row more
pub laid_next : (n : ℕ) (rows l x : List ℕ) (i w v : ℕ) → i < length rows → i < length l → x ≡ take i (words_of_rows n rows) ++ drop i l → w ≡ word_of v → v ≡ get_or rows i 0
    → set x i w ≡ take (i + 1) (words_of_rows n rows) ++ drop (i + 1) l
laid_next n rows l x i w v h g is e f =
    ap₂ (λ (y : List ℕ) (u : ℕ). set y i u) is (e ∙ ap word_of f ∙ sym (words_get n rows i))
    ∙ over_more 0 (words_of_rows n rows) l i (omega (arith, words_length n rows)) g

-- they are put over the words
laid_over : (n : ℕ) (rows out : List ℕ) → over (words_of_rows n rows) out ≡ laid n rows out
unfolding laid over
laid_over n rows out = refl

-- as many rows laid as there are, or as there are words
pub laid_end : (n : ℕ) (rows out : List ℕ) (k : ℕ) → k ≡ min (length rows) (length out) → take k (words_of_rows n rows) ++ drop k out ≡ laid n rows out
laid_end n rows out k e = over_end (words_of_rows n rows) out k (e ∙ ap (λ (m : ℕ). min m (length out)) (sym (words_length n rows))) ∙ laid_over n rows out

-- ---- rows of n qubits, for which a row has columns enough

module _ (n : ℕ) (size : n + n ≤ width) where
  -- they are their words
  words_are : (rows : List ℕ) → All (λ v. v < 2 ^ (n + n)) rows → words_of_rows n rows ≡ rows
  unfolding words_of_rows word_of
  words_are [] h = refl
  words_are (r ∷ rows) h = ap₂ (λ (x : ℕ) (m : List ℕ). x ∷ m) (mod-eq_of_lt (lt_of_lt_of_le h.0 (pow_mono size))) (words_are rows h.1)

  module _ (rows out : List ℕ) (fits : All (λ v. v < 2 ^ (n + n)) rows) where
    laid_fits : length rows ≤ length out → laid n rows out ≡ rows ++ drop (length rows) out
    unfolding laid
    laid_fits h =
        ap (λ (w : List ℕ). take (length out) (w ++ drop (length w) out)) (words_are rows fits)
        ∙ take_all (length out) (rows ++ drop (length rows) out) (omega (arith, length-append rows (drop (length rows) out), length-drop (length rows) out))

    -- as many rows as were laid
    pub laid_front : length rows ≤ length out → take (length rows) (rows_of_words n (laid n rows out)) ≡ rows
    unfolding rows_of_words
    laid_front h = ap (take (length rows)) (laid_fits h) ∙ take_at rows (drop (length rows) out) (length rows) refl

    -- exactly as many words as rows: the words are the rows
    pub laid_whole : length rows ≡ length out → rows_of_words n (laid n rows out) ≡ rows
    unfolding rows_of_words
    laid_whole e =
        laid_fits (omega arith) ∙ ap (λ (l : List ℕ). rows ++ l) (drop_of_length-le out {i = length rows} (omega arith)) ∙ append-nil rows

-- ---- lent words as rows

-- as many rows as words, each the word in its place
pub rows_count : (n : ℕ) (ws : List ℕ) → length (rows_of_words n ws) ≡ length ws
unfolding rows_of_words
rows_count n ws = refl

pub rows_are : (n : ℕ) (ws : List ℕ) → rows_of_words n ws ≡ ws
unfolding rows_of_words
rows_are n ws = refl

pub rows_word : (n : ℕ) (ws : List ℕ) (i : ℕ) → get_or (rows_of_words n ws) i 0 ≡ get_or ws i 0
unfolding rows_of_words
rows_word n ws i = refl

pub rows_take : (n k : ℕ) (ws : List ℕ) → take k (rows_of_words n ws) ≡ rows_of_words n (take k ws)
unfolding rows_of_words
rows_take n k ws = refl
