-- The first index of a list at which a test passes.
-- Assumes nothing.
use mathlib.Core.Path.{◌≡◌}
use mathlib.Core.Bool.{Bool, true, false}
use mathlib.Core.List.{List, ◌∷◌}
use Prim.Native.Nat.{ℕ, suc, ◌≤◌, ◌<◌, zero-le, suc-le-suc}
use native.Mathlib.Nat.{le_of_suc-le-suc}
use lib.ListN.{length, get_or}

-- j is the first index from p on at which the test passes
pub record First {A : Type 0} (has : A → Bool) (d : A) (l : List A) (p j : ℕ) : Type 0 where
  pub from : p ≤ j
  pub inside : j < length l
  pub before : (i : ℕ) → p ≤ i → i < j → has (get_or l i d) ≡ false
  pub at : has (get_or l j d) ≡ true

module _ {A : Type 0} (has : A → Bool) (d : A) where
  pub first_later : (t : A) (ts : List A) (j : ℕ) → First has d (t ∷ ts) 0 (suc j) → First has d ts 0 j
  first_later t ts j f = record { from = zero-le; inside = le_of_suc-le-suc f.inside; before = λ i a l. f.before (suc i) zero-le (suc-le-suc l); at = f.at }

  pub first_inner : (t : A) (ts : List A) (p j : ℕ) → First has d (t ∷ ts) (suc p) (suc j) → First has d ts p j
  first_inner t ts p j f = record {
    from = le_of_suc-le-suc f.from;
    inside = le_of_suc-le-suc f.inside;
    before = λ i a l. f.before (suc i) (suc-le-suc a) (suc-le-suc l);
    at = f.at;
  }
