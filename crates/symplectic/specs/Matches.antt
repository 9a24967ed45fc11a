-- Whether vectors have columns below 2n only, and whether the turns of a list play an action.
-- Assumes nothing.
use Rattle.std.specs.Prelude.{Bool, true, false, ◌&&◌, List, [], ◌∷◌, ℕ, ◌+◌, ◌^◌, ltb, eqb}
use Rattle.symplectic.specs.Turns.{product}
use Rattle.std.specs.List.{list_all}

-- each row is free of bits from m up
unfoldable pub fit_all : ℕ → List ℕ → Bool
fit_all m rows = list_all (λ v. ltb v (2 ^ m)) rows

-- two lists of numbers are equal
abbrev pub same_rows : List ℕ → List ℕ → Bool
same_rows [] [] = true
same_rows [] (y ∷ ys) = false
same_rows (x ∷ xs) [] = false
same_rows (x ∷ xs) (y ∷ ys) = eqb x y && same_rows xs ys

-- a list matches F: each vector is free of bits from 2n up, and the product is F
unfoldable pub matches : ℕ → List ℕ → List ℕ → Bool
matches n F vs = fit_all (n + n) vs && same_rows (product n vs) F
