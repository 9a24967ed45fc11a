-- A column's step where all rows stand in one list: the first row at or below the pivot row that has the column is exchanged with the pivot row, then every other row is cleared.
-- Assumes nothing.
use mathlib.Core.Path.{◌≡◌, refl, sym, ap, ap₂, ◌∙◌, subst}
use mathlib.Core.Bool.{Bool, false}
use mathlib.Core.List.{List, [], ◌∷◌, ◌++◌, map}
use Prim.Native.Nat.{ℕ, zero, suc, ◌+◌, ◌-◌, ◌≤◌, ◌<◌, zero-le, suc-le-suc}
use native.Mathlib.Omega.{arith}
use native.Mathlib.Nat.{not-suc-le-zero, le_of_suc-le-suc, zero-lt-suc, le_refl, lt_of_le_of_lt}
use native.Mathlib.Numerals.{add-one}
use lib.ListN.{length, take, drop, get_or, set, length-set}
use lib.Seq.{take-set-le}
use Rattle.blocks.proofs.Firsts.{First, first_later, first_inner}
use Rattle.reduction.specs.Columns.{unpulled, pulled, put_if, put, pull_if, pull, Echelon, clear, column_by, column, columns}
use Rattle.reduction.specs.inner.Sweeps.{halves, swapped}

swapped_length : {A : Type 0} (d : A) (p j : ℕ) (l : List A) → length (swapped d p j l) ≡ length l
swapped_length d p j l = length-set (set l p (get_or l j d)) j (get_or l p d) ∙ length-set l p (get_or l j d)

-- row j is the pivot row then
swapped_pivot : {A : Type 0} (d : A) (p j : ℕ) (l : List A) → p ≤ j → j < length l → get_or (swapped d p j l) p d ≡ get_or l j d
swapped_pivot d p j [] h k = absurd (not-suc-le-zero k)
swapped_pivot d zero zero (t ∷ ts) h k = refl
swapped_pivot d zero (suc j) (t ∷ ts) h k = refl
swapped_pivot d (suc p) zero (t ∷ ts) h k = absurd (not-suc-le-zero h)
swapped_pivot d (suc p) (suc j) (t ∷ ts) h k = swapped_pivot d p j ts (le_of_suc-le-suc h) (le_of_suc-le-suc k)

-- ---- what is pulled, by the first index

module _ {A : Type 0} (has : A → Bool) (d : A) where
  put_at : (t : A) (us : List A) (j : ℕ) → First has d us 0 j → put has t us ≡ pulled (get_or us j d) (set us j t)
  put_at t [] j f = absurd (not-suc-le-zero f.inside)
  put_at t (u ∷ us) zero f = ap (λ b. put_if b t u us (put has t us)) f.at
  put_at t (u ∷ us) (suc j) f = ap₂ (λ b l. put_if b t u us l) (f.before zero zero-le (zero-lt-suc j)) (put_at t us j (first_later has d u us j f))

  pub pull_at : (p j : ℕ) (l : List A) → First has d l p j → pull has (drop p l) ≡ pulled (get_or l j d) (drop (suc p) (swapped d p j l))
  pull_at p j [] f = absurd (not-suc-le-zero f.inside)
  pull_at zero zero (t ∷ ts) f = ap (λ b. pull_if b t ts (put has t ts)) f.at
  pull_at zero (suc j) (t ∷ ts) f = ap₂ (λ b l. pull_if b t ts l) (f.before zero zero-le (zero-lt-suc j)) (put_at t ts j (first_later has d t ts j f))
  pull_at (suc p) zero (t ∷ ts) f = absurd (not-suc-le-zero f.from)
  pull_at (suc p) (suc j) (t ∷ ts) f = pull_at p j ts (first_inner has d t ts p j f)

  put_none : (t : A) (us : List A) → ((i : ℕ) → i < length us → has (get_or us i d) ≡ false) → put has t us ≡ unpulled
  put_none t [] f = refl
  put_none t (u ∷ us) f = ap₂ (λ b l. put_if b t u us l) (f zero (zero-lt-suc (length us))) (put_none t us (λ i l. f (suc i) (suc-le-suc l)))

  pub pull_none : (p : ℕ) (l : List A) → ((i : ℕ) → p ≤ i → i < length l → has (get_or l i d) ≡ false) → pull has (drop p l) ≡ unpulled
  pull_none zero [] f = refl
  pull_none (suc p) [] f = refl
  pull_none zero (t ∷ ts) f =
      ap₂ (λ b l. pull_if b t ts l) (f zero zero-le (zero-lt-suc (length ts))) (put_none t ts (λ i l. f (suc i) zero-le (suc-le-suc l)))
  pull_none (suc p) (t ∷ ts) f = pull_none p ts (λ i a l. f (suc i) (suc-le-suc a) (suc-le-suc l))

-- ---- a column

-- every row but row p changed
unfoldable others : {A : Type 0} → (A → A) → ℕ → List A → List A
others f p [] = []
others f zero (y ∷ ys) = y ∷ map f ys
others f (suc p) (y ∷ ys) = f y ∷ others f p ys

module _ {A : Type 0} (f : A → A) where
  -- row p put back
  others_set : (d : A) (p : ℕ) (l : List A) → others f p l ≡ set (map f l) p (get_or l p d)
  unfolding others
  others_set d p [] = refl
  others_set d zero (y ∷ ys) = refl
  others_set d (suc p) (y ∷ ys) = ap (λ l. f y ∷ l) (others_set d p ys)

  others_take : (d : A) (p : ℕ) (l : List A) → p < length l → take (suc p) (others f p l) ≡ map f (take p l) ++ (get_or l p d ∷ [])
  unfolding others
  others_take d p [] h = absurd (not-suc-le-zero h)
  others_take d zero (y ∷ ys) h = refl
  others_take d (suc p) (y ∷ ys) h = ap (λ l. f y ∷ l) (others_take d p ys (le_of_suc-le-suc h))

  others_drop : (p : ℕ) (l : List A) → drop (suc p) (others f p l) ≡ map f (drop (suc p) l)
  unfolding others
  others_drop p [] = refl
  others_drop zero (y ∷ ys) = refl
  others_drop (suc p) (y ∷ ys) = others_drop p ys

module _ {A : Type 0} (o : A) (add : A → A → A) (d : A) where
  pub column_at : (c : ℕ) (has : A → Bool) (p j : ℕ) (ps : List ℕ) (l : List A) → First has d l p j
      → column o add c has (halves p ps l)
      ≡ halves (suc p) (ps ++ (c ∷ [])) (set (map (clear o add has (get_or (swapped d p j l) p d)) (swapped d p j l)) p (get_or (swapped d p j l) p d))
  column_at c has p j ps l f =
      ap (column_by o add c has (halves p ps l)) (pull_at has d p j l f)
      ∙ ap₂ (λ u w. record { up = u; down = w; pivots = ps ++ (c ∷ []) })
      (sym (others_take cl d p s inside ∙ ap₂ (λ t x. map cl t ++ (x ∷ [])) above (swapped_pivot d p j l f.from f.inside)))
      (sym (others_drop cl p s))
      ∙ ap (halves (suc p) (ps ++ (c ∷ []))) (others_set cl d p s ∙ ap (λ x. set (map (clear o add has x) s) p (get_or s p d)) (sym (swapped_pivot d p j l f.from f.inside)))
    where
      cl : A → A
      cl = clear o add has (get_or l j d)

      s : List A
      s = swapped d p j l

      inside : p < length s
      inside = subst (λ m. p < m) (sym (swapped_length d p j l)) (lt_of_le_of_lt f.from f.inside)

      above : take p s ≡ take p l
      above = take-set-le p (set l p (get_or l j d)) j (get_or l p d) f.from ∙ take-set-le p l p (get_or l j d) (le_refl p)

  pub column_none : (c : ℕ) (has : A → Bool) (p : ℕ) (ps : List ℕ) (l : List A) → ((i : ℕ) → p ≤ i → i < length l → has (get_or l i d) ≡ false)
      → column o add c has (halves p ps l) ≡ halves p ps l
  column_none c has p ps l f = ap (column_by o add c has (halves p ps l)) (pull_none has d p l f)

-- ---- the columns from c on, of m

module _ {A : Type 0} (o : A) (add : A → A → A) (has : ℕ → A → Bool) where
  columns_next : (m c : ℕ) (h : Echelon A) → c < m → columns o add has (m - c) c h ≡ columns o add has (m - (c + 1)) (c + 1) (column o add c (has c) h)
  unfolding columns
  columns_next m c h l =
      let e : m - c ≡ suc (m - (c + 1)) = omega arith in
      ap (λ k. columns o add has k c h) e ∙ ap (λ b. columns o add has (m - (c + 1)) b (column o add c (has c) h)) (sym (add-one c))

  pub columns_done : (m c : ℕ) (h : Echelon A) → m ≤ c → columns o add has (m - c) c h ≡ h
  unfolding columns
  columns_done m c h l = let e : m - c ≡ 0 = omega arith in ap (λ k. columns o add has k c h) e

  -- one column less is left
  pub columns_step : (m c : ℕ) (h g all : Echelon A) → c < m → columns o add has (m - c) c h ≡ all → g ≡ column o add c (has c) h
      → columns o add has (m - (c + 1)) (c + 1) g ≡ all
  columns_step m c h g all l e d = ap (columns o add has (m - (c + 1)) (c + 1)) d ∙ sym (columns_next m c h l) ∙ e
