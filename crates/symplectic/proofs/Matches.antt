-- Vectors with columns below a bound only, lists of rows compared row by row, and what it means that a list matches an action.
-- Assumes nothing.
use mathlib.Core.Path.{◌≡◌, refl, sym, ap, ap₂, ◌∙◌}
use mathlib.Core.Bool.{Bool, true, false, ◌&&◌, true≢false, and-eq-true_iff}
use mathlib.Core.List.{List, [], ◌∷◌}
use Prim.Native.Nat.{ℕ, ◌+◌, ◌^◌, ◌<◌}
use lib.Dec.{ltb, eqb}
use lib.ListN.{length}
use borrow.Author.Tests.{ltb-true, eqb-true, lt-ltb, eq-eqb}
use Rattle.blocks.specs.Matrices.{All}
use Rattle.blocks.proofs.All.{All-map}
use Rattle.symplectic.specs.Turns.{product}
use Rattle.std.specs.List.{list_all}
use Rattle.symplectic.specs.Matches.{fit_all, same_rows, matches}
use Rattle.symplectic.proofs.Lists.{all_true, true_all}

-- ---- vectors within their width

pub fit_all_is : (m : ℕ) (rows : List ℕ) → fit_all m rows ≡ list_all (λ v. ltb v (2 ^ m)) rows
unfolding fit_all
fit_all_is m rows = refl

pub fit_all_lem : (m : ℕ) (rows : List ℕ) → fit_all m rows ≡ true → All (λ f. f < 2 ^ m) rows
unfolding fit_all
fit_all_lem m rows e = All-map (λ v t. ltb-true v (2 ^ m) t) rows (all_true (λ v. ltb v (2 ^ m)) rows e)

pub all_fit : (m : ℕ) (rows : List ℕ) → All (λ f. f < 2 ^ m) rows → fit_all m rows ≡ true
unfolding fit_all
all_fit m rows a = true_all (λ v. ltb v (2 ^ m)) rows (All-map (λ v h. lt-ltb v (2 ^ m) h) rows a)

-- ---- rows compared

pub rows_equal : (xs ys : List ℕ) → same_rows xs ys ≡ true → xs ≡ ys
rows_equal [] [] e = refl
rows_equal [] (y ∷ ys) e = absurd (true≢false (sym e))
rows_equal (x ∷ xs) [] e = absurd (true≢false (sym e))
rows_equal (x ∷ xs) (y ∷ ys) e =
    let k = (and-eq-true_iff (eqb x y) (same_rows xs ys)).0 e in ap₂ ◌∷◌ (eqb-true x y k.0) (rows_equal xs ys k.1)

pub rows_same : (xs : List ℕ) → same_rows xs xs ≡ true
rows_same [] = refl
rows_same (x ∷ xs) = ap₂ ◌&&◌ (eq-eqb x x refl) (rows_same xs)

pub rows_differ : (xs ys : List ℕ) → (length xs ≡ length ys → ⊥) → false ≡ same_rows xs ys
rows_differ xs ys h = go (same_rows xs ys) refl
  where
    go : (b : Bool) → same_rows xs ys ≡ b → false ≡ b
    go true e = absurd (h (ap length (rows_equal xs ys e)))
    go false e = refl

-- ---- a list that matches

module _ (n : ℕ) (F vs : List ℕ) where
  pub matches_is : matches n F vs ≡ fit_all (n + n) vs && same_rows (product n vs) F
  unfolding matches
  matches_is = refl

  pub matches_known : matches n F vs ≡ true → All (λ v. v < 2 ^ (n + n)) vs × (product n vs ≡ F)
  matches_known e =
      let k = (and-eq-true_iff (fit_all (n + n) vs) (same_rows (product n vs) F)).0 (sym matches_is ∙ e) in
      (fit_all_lem (n + n) vs k.0, rows_equal (product n vs) F k.1)

  pub known_matches : All (λ v. v < 2 ^ (n + n)) vs → product n vs ≡ F → matches n F vs ≡ true
  known_matches a e =
      matches_is ∙ ap₂ ◌&&◌ (all_fit (n + n) vs a) (ap (same_rows (product n vs)) (sym e) ∙ rows_same (product n vs))
