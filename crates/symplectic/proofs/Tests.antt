-- A test and those behind it; tests of all members, one by one: true so far, one member more, and a member that fails. Then the test of an action's rows.
-- Assumes nothing.
use mathlib.Core.Path.{◌≡◌, refl, sym, ap, ap₂, ◌∙◌, subst}
use mathlib.Core.Bool.{Bool, true, false, ◌&&◌, beq, and-eq-true_iff, and-false, true≢false}
use mathlib.Core.Logic.{⊎_elim}
use mathlib.Core.List.{List, [], ◌∷◌, zip, zip_with}
use Prim.Native.Nat.{ℕ, zero, suc, ◌+◌, ◌^◌, ◌≤◌, ◌<◌, min}
use native.Mathlib.Nat.{le_of_suc-le-suc, not-suc-le-zero, eq-or-lt_of_le}
use native.Mathlib.Numerals.{add-one}
use native.Mathlib.Omega.{arith}
use lib.Dec.{ltb}
use lib.ListN.{length, get_or, take, length-take}
use lib.Seq.{take_all, get_or-take}
use borrow.Author.Tests.{ltb-true, ltb-false}
use Rattle.blocks.specs.Matrices.{units}
use Rattle.blocks.proofs.All.{All-at}
use Rattle.blocks.proofs.Units.{units_length, units_at}
use Rattle.symplectic.specs.Turns.{pairing, pair_alike, symplectic}
use Rattle.std.specs.List.{list_all, range_with_len}
use Rattle.blocks.proofs.Ranges.{same_test, range_each, range_fails}
use Rattle.symplectic.specs.inner.Vectors.{pairs_below}
use Rattle.symplectic.proofs.Lists.{all_true}
use Rattle.symplectic.proofs.Pairings.{pairing_comm, pairing_self}

-- ---- one test and those behind it

-- a test fails
pub and_no : (a b : Bool) → a ≡ false → false ≡ a && b
and_no a b e = ap (λ t. t && b) (sym e)

-- a test is passed, and the others say t
pub and_yes : (a b t : Bool) → a ≡ true → t ≡ b → t ≡ a && b
and_yes a b t e d = d ∙ ap (λ s. s && b) (sym e)

-- ---- any test

module _ {A : Type 0} (f : A → Bool) (d : A) where
  all_suc : (l : List A) (i : ℕ) → i < length l → list_all f (take i l) ≡ true → f (get_or l i d) ≡ true → list_all f (take (suc i) l) ≡ true
  all_suc [] i h inv e = refl
  all_suc (x ∷ l) zero h inv e = ap (λ (b : Bool). b && true) e
  all_suc (x ∷ l) (suc i) h inv e =
      let k = (and-eq-true_iff (f x) (list_all f (take i l))).0 inv in
      ap₂ ◌&&◌ k.0 (all_suc l i (le_of_suc-le-suc h) k.1 e)

  -- one member more passes
  pub all_next : (l : List A) (i : ℕ) → i < length l → list_all f (take i l) ≡ true → f (get_or l i d) ≡ true → list_all f (take (i + 1) l) ≡ true
  all_next l i h inv e = ap (λ (k : ℕ). list_all f (take k l)) (add-one i) ∙ all_suc l i h inv e

  -- one member fails
  pub all_fails : (l : List A) (i : ℕ) → i < length l → f (get_or l i d) ≡ false → false ≡ list_all f l
  all_fails [] i h e = absurd (not-suc-le-zero h)
  all_fails (x ∷ l) zero h e = ap (λ (b : Bool). b && list_all f l) (sym e)
  all_fails (x ∷ l) (suc i) h e = sym (and-false (f x)) ∙ ap (λ (b : Bool). f x && b) (all_fails l i (le_of_suc-le-suc h) e)

-- one of the first members fails
some_fails : {A : Type 0} (f : A → Bool) (l : List A) (k : ℕ) → list_all f (take k l) ≡ false → list_all f l ≡ false
some_fails f l zero e = absurd (true≢false e)
some_fails f [] (suc k) e = e
some_fails f (x ∷ l) (suc k) e = go (f x) e (some_fails f l k)
  where
    go : (b : Bool) → b && list_all f (take k l) ≡ false → (list_all f (take k l) ≡ false → list_all f l ≡ false) → b && list_all f l ≡ false
    go true h later = later h
    go false h later = refl

-- every member passes
all_each : {A : Type 0} (f : A → Bool) (d : A) (l : List A) → ((i : ℕ) → i < length l → f (get_or l i d) ≡ true) → list_all f l ≡ true
all_each f d [] each = refl
all_each f d (x ∷ l) each = ap₂ ◌&&◌ (each 0 (omega arith)) (all_each f d l (λ i h. each (suc i) (omega arith)))

-- every member has passed
pub all_end : {A : Type 0} (f : A → Bool) (l : List A) (i : ℕ) → length l ≤ i → list_all f (take i l) ≡ true → true ≡ list_all f l
all_end f l i h inv = sym (ap (list_all f) (sym (take_all i l h)) ∙ inv)

-- ---- rows beside the basis

zip_length : (xs ys : List ℕ) → length (zip xs ys) ≡ min (length xs) (length ys)
unfolding zip zip_with
zip_length [] ys = omega arith
zip_length (x ∷ xs) [] = omega arith
zip_length (x ∷ xs) (y ∷ ys) = omega (arith, zip_length xs ys)

zip_get : (xs ys : List ℕ) (i : ℕ) → i < length xs → i < length ys → get_or (zip xs ys) i (0, 0) ≡ (get_or xs i 0, get_or ys i 0)
unfolding zip zip_with
zip_get [] ys i h k = absurd (not-suc-le-zero h)
zip_get (x ∷ xs) [] i h k = absurd (not-suc-le-zero k)
zip_get (x ∷ xs) (y ∷ ys) zero h k = refl
zip_get (x ∷ xs) (y ∷ ys) (suc i) h k = zip_get xs ys i (le_of_suc-le-suc h) (le_of_suc-le-suc k)

-- rows i and j pair as their basis vectors do
abbrev pub alike : ℕ → List ℕ → ℕ → ℕ → Bool
alike n F i j = beq (pairing n (get_or F i 0) (get_or F j 0)) (pairing n (2 ^ i) (2 ^ j))

-- each of the first i rows with those before it
abbrev Paired : ℕ → List ℕ → ℕ → Type 0
Paired n F i = (a b : ℕ) → b < a → a < i → alike n F a b ≡ true

-- of as many rows as there are vectors of the basis
module _ (n : ℕ) (F : List ℕ) (count : ℕ) (size : count ≡ min (length F) (n + n)) where
  abbrev rows : List (ℕ × ℕ)
  rows = zip F (units (n + n))

  abbrev with : ℕ → ℕ × ℕ → Bool
  with i = pair_alike n (get_or F i 0, 2 ^ i)

  beside_length : length rows ≡ count
  beside_length = zip_length F (units (n + n)) ∙ omega (arith, size, units_length (n + n))

  beside_at : (i : ℕ) → i < count → get_or rows i (0, 0) ≡ (get_or F i 0, 2 ^ i)
  beside_at i h = zip_get F (units (n + n)) i (omega (arith, size)) (omega (arith, size, units_length (n + n))) ∙ ap (λ (u : ℕ). (get_or F i 0, u)) (units_at i (n + n) (omega (arith, size)))

  -- the test of row i with row j
  with_is : (i j : ℕ) → j < count → with i (get_or rows j (0, 0)) ≡ alike n F i j
  unfolding pair_alike
  with_is i j h = ap (with i) (beside_at j h)

  first_is : (i j k : ℕ) → j < k → j < count → with i (get_or (take k rows) j (0, 0)) ≡ alike n F i j
  first_is i j k l h = ap (with i) (get_or-take k rows j (0, 0) l) ∙ with_is i j h

  first_length : (j k : ℕ) → j < k → j < count → j < length (take k rows)
  first_length j k l h = omega (arith, length-take k rows, beside_length)

  -- ---- row i with the rows before it

  basis_fails : (i j k : ℕ) → j < k → j < count → alike n F i j ≡ false → false ≡ pairs_below n F i k
  unfolding pairs_below
  basis_fails i j k l h e = all_fails (with i) (0, 0) (take k rows) j (first_length j k l h) (first_is i j k l h ∙ e)

  pub basis_by_rows : (f : ℕ → Bool) (i : ℕ) → i ≤ count → ((j : ℕ) → j < i → f j ≡ alike n F i j) → list_all f (range_with_len 0 i) ≡ pairs_below n F i i
  unfolding pairs_below
  basis_by_rows f i h is =
      same_test (list_all f (range_with_len 0 i)) (pairs_below n F i i)
      (λ e. sym (all_each (with i) (0, 0) (take i rows) (λ j k.
      let l : j < i = omega (arith, k, length-take i rows) in
      first_is i j i l (omega (arith, l, h)) ∙ sym (is j l) ∙ range_each f i 0 e j (omega arith) (omega (arith, l)))))
      (λ e. let k = range_fails f i 0 e in let l : k.0 < i = omega (arith, k.1.1.0) in basis_fails i k.0 i l (omega (arith, l, h)) (sym (is k.0 l) ∙ k.1.1.1))

  -- ---- each row with those before it

  row_paired : (i : ℕ) → pairs_below n F i i ≡ true → (b : ℕ) → b < i → i < count → alike n F i b ≡ true
  unfolding pairs_below
  row_paired i e b k h =
      sym (first_is i b i k (omega arith))
      ∙ All-at (λ x. with i x ≡ true) (take i rows) (all_true (with i) (take i rows) e) b (0, 0) (first_length b i k (omega arith))

  symplectic_fails : (i : ℕ) → i < count → pairs_below n F i i ≡ false → false ≡ symplectic n F
  unfolding symplectic pairs_below
  symplectic_fails i h e =
      all_fails (λ a. list_all (pair_alike n a) rows) (0, 0) rows i (omega (arith, beside_length))
      (ap (λ a. list_all (pair_alike n a) rows) (beside_at i h) ∙ some_fails (with i) rows i e)

  -- the pairing is the same either way round, and 0 with itself: so rows with those before them are all that is to be tested
  symplectic_end : Paired n F count → true ≡ symplectic n F
  unfolding symplectic
  symplectic_end inv =
      sym (all_each (λ a. list_all (pair_alike n a) rows) (0, 0) rows (λ a k.
      ap (λ x. list_all (pair_alike n x) rows) (beside_at a (inside a k))
      ∙ all_each (with a) (0, 0) rows (λ b l. with_is a b (inside b l) ∙ every a b (inside a k) (inside b l) (ltb b a) refl)))
    where
      inside : (a : ℕ) → a < length rows → a < count
      inside a k = omega (arith, beside_length)

      every : (a b : ℕ) → a < count → b < count → (less : Bool) → ltb b a ≡ less → alike n F a b ≡ true
      every a b k l true e = inv a b (ltb-true b a e) (omega arith)
      every a b k l false e =
          ⊎_elim
          (λ (same : a ≡ b). subst (λ (x : ℕ). alike n F a x ≡ true) same (ap₂ beq (pairing_self n (get_or F a 0)) (pairing_self n (2 ^ a))))
          (λ (less : a < b). ap₂ beq (pairing_comm n (get_or F a 0) (get_or F b 0)) (pairing_comm n (2 ^ a) (2 ^ b)) ∙ inv b a less (omega arith))
          (eq-or-lt_of_le (ltb-false b a e))

  -- the test of an action's rows is that of each row with those before it
  pub symplectic_by_rows : list_all (λ i. pairs_below n F i i) (range_with_len 0 count) ≡ symplectic n F
  symplectic_by_rows =
      let f : ℕ → Bool = λ i. pairs_below n F i i in
      same_test (list_all f (range_with_len 0 count)) (symplectic n F)
      (λ e. symplectic_end (λ a b l h. row_paired a (range_each f count 0 e a (omega arith) (omega (arith, h))) b l h))
      (λ e. let k = range_fails f count 0 e in symplectic_fails k.0 (omega (arith, k.1.1.0)) k.1.1.1)
