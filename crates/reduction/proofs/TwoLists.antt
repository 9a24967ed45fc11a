-- The steps of a column on the rows and on the transform, each in a list of its own.
-- Assumes nothing.
use mathlib.Core.Path.{◌≡◌, refl, sym, ap, ap₂, ◌∙◌, subst}
use mathlib.Core.Bool.{Bool, false}
use mathlib.Core.List.{List, [], ◌∷◌, ◌++◌, map, zip, zip_with}
use Prim.Native.Nat.{ℕ, zero, suc, ◌+◌, ◌≤◌, ◌<◌}
use native.Mathlib.Nat.{suc_inj, suc-ne-zero}
use native.Mathlib.Numerals.{add-one}
use lib.ListN.{length, take, get_or, set}
use Rattle.binar.specs.Bits.{bit}
use Rattle.symplectic.specs.Picks.{add_both}
use Rattle.reduction.specs.Columns.{column}
use Rattle.reduction.specs.inner.Sweeps.{halves, swapped, swept}
use Rattle.blocks.proofs.Firsts.{First}
use Rattle.reduction.proofs.Flat.{column_at, column_none}

-- ---- two lists of one length, side by side

module _ {A B : Type 0} where
  pub zip_length : (R : List A) (T : List B) → length R ≡ length T → length (zip R T) ≡ length R
  unfolding zip zip_with
  zip_length [] T e = refl
  zip_length (r ∷ R) [] e = absurd (suc-ne-zero (length R) e)
  zip_length (r ∷ R) (t ∷ T) e = ap suc (zip_length R T (suc_inj e))

  pub zip_at : (R : List A) (T : List B) (d : A) (e : B) → length R ≡ length T → (i : ℕ) → get_or (zip R T) i (d, e) ≡ (get_or R i d, get_or T i e)
  unfolding zip zip_with
  zip_at [] [] d e s i = refl
  zip_at [] (t ∷ T) d e s i = absurd (suc-ne-zero (length T) (sym s))
  zip_at (r ∷ R) [] d e s i = absurd (suc-ne-zero (length R) s)
  zip_at (r ∷ R) (t ∷ T) d e s zero = refl
  zip_at (r ∷ R) (t ∷ T) d e s (suc i) = zip_at R T d e (suc_inj s) i

  pub zip_set : (R : List A) (T : List B) (i : ℕ) (a : A) (b : B) → zip (set R i a) (set T i b) ≡ set (zip R T) i (a, b)
  unfolding zip zip_with
  zip_set [] T i a b = refl
  zip_set (r ∷ R) [] zero a b = refl
  zip_set (r ∷ R) [] (suc i) a b = refl
  zip_set (r ∷ R) (t ∷ T) zero a b = refl
  zip_set (r ∷ R) (t ∷ T) (suc i) a b = ap (λ l. (r, t) ∷ l) (zip_set R T i a b)

  -- the first of the pairs above the pivot row, and the second
  pub above_left : (p : ℕ) (R : List A) (T : List B) → length R ≡ length T → map (λ a. a.0) (take p (zip R T)) ≡ take p R
  unfolding zip zip_with
  above_left zero R T e = refl
  above_left (suc p) [] T e = refl
  above_left (suc p) (r ∷ R) [] e = absurd (suc-ne-zero (length R) e)
  above_left (suc p) (r ∷ R) (t ∷ T) e = ap (λ l. r ∷ l) (above_left p R T (suc_inj e))

  pub above_right : (p : ℕ) (R : List A) (T : List B) → length R ≡ length T → map (λ a. a.1) (take p (zip R T)) ≡ take p T
  unfolding zip zip_with
  above_right zero R T e = refl
  above_right (suc p) [] [] e = refl
  above_right (suc p) [] (t ∷ T) e = absurd (suc-ne-zero (length T) (sym e))
  above_right (suc p) (r ∷ R) [] e = absurd (suc-ne-zero (length R) e)
  above_right (suc p) (r ∷ R) (t ∷ T) e = ap (λ l. t ∷ l) (above_right p R T (suc_inj e))

abbrev zeros : ℕ × ℕ
zeros = (0, 0)

zip_swapped : (R T : List ℕ) → length R ≡ length T → (p j : ℕ) → zip (swapped 0 p j R) (swapped 0 p j T) ≡ swapped zeros p j (zip R T)
zip_swapped R T e p j =
    zip_set (set R p (get_or R j 0)) (set T p (get_or T j 0)) j (get_or R p 0) (get_or T p 0)
    ∙ ap (λ l. set l j (get_or R p 0, get_or T p 0)) (zip_set R T p (get_or R j 0) (get_or T j 0))
    ∙ sym (ap₂ (λ x y. set (set (zip R T) p x) j y) (zip_at R T 0 0 e j) (zip_at R T 0 0 e p))

-- ---- a column

both_at : (c p j : ℕ) (ps R T : List ℕ) → length R ≡ length T → First (bit c) 0 R p j
    → column (0, 0) add_both c (λ a. bit c a.0) (halves p ps (zip R T)) ≡ halves (suc p) (ps ++ (c ∷ [])) (swept c p (zip (swapped 0 p j R) (swapped 0 p j T)))
both_at c p j ps R T e f =
    column_at zeros add_both zeros c has p j ps (zip R T) first ∙ ap (λ l. halves (suc p) (ps ++ (c ∷ [])) (swept c p l)) (sym (zip_swapped R T e p j))
  where
    has : ℕ × ℕ → Bool
    has a = bit c a.0

    first : First has zeros (zip R T) p j
    first = record {
      from = f.from;
      inside = subst (λ m. j < m) (sym (zip_length R T e)) f.inside;
      before = λ i a l. ap has (zip_at R T 0 0 e i) ∙ f.before i a l;
      at = ap has (zip_at R T 0 0 e j) ∙ f.at;
    }

pub both_none : (c p : ℕ) (ps R T : List ℕ) → length R ≡ length T → ((i : ℕ) → p ≤ i → i < length R → bit c (get_or R i 0) ≡ false)
    → column (0, 0) add_both c (λ a. bit c a.0) (halves p ps (zip R T)) ≡ halves p ps (zip R T)
both_none c p ps R T e f =
    column_none (0, 0) add_both (0, 0) c (λ a. bit c a.0) p ps (zip R T)
    (λ i a l. ap (λ x. bit c x.0) (zip_at R T 0 0 e i) ∙ f i a (subst (λ m. i < m) (zip_length R T e) l))

-- a column's step, in the code's order
pub column_next : (c p j : ℕ) (ps qs R T R₂ T₂ : List ℕ) → length R ≡ length T → First (bit c) 0 R p j → qs ≡ ps ++ (c ∷ [])
    → zip R₂ T₂ ≡ swept c p (zip (swapped 0 p j R) (swapped 0 p j T))
    → halves (p + 1) qs (zip R₂ T₂) ≡ column (0, 0) add_both c (λ a. bit c a.0) (halves p ps (zip R T))
column_next c p j ps qs R T R₂ T₂ e f is done =
    ap₂ (λ k l. halves k qs l) (add-one p) done ∙ ap (λ x. halves (suc p) x (swept c p (zip (swapped 0 p j R) (swapped 0 p j T)))) is ∙ sym (both_at c p j ps R T e f)
