-- The residue of an action, its basis V and transform R, and the core E.
-- Assumes nothing.
use Rattle.std.specs.Prelude.{Bool, List, ◌++◌, map, ℕ, ◌+◌, take, drop}
use Rattle.binar.specs.Bits.{dot}
use Rattle.blocks.specs.Matrices.{times, dots}
use Rattle.symplectic.specs.Turns.{identity_plus}
use Rattle.reduction.specs.Columns.{Echelon, row_reduce_with_transform_lem}

-- I + F with the upper and lower n rows exchanged
unfoldable pub residue : ℕ → List ℕ → List ℕ
residue n F = let rows = identity_plus n F in drop n rows ++ take n rows

unfoldable pub reduction : ℕ → List ℕ → Echelon (ℕ × ℕ)
reduction n F = row_reduce_with_transform_lem (n + n) (residue n F)

-- the r nonzero rows are the basis V
unfoldable pub basis : ℕ → List ℕ → List ℕ
basis n F = map (λ a. a.0) (reduction n F).up

-- the first r transform rows are R
unfoldable pub transform : ℕ → List ℕ → List ℕ
transform n F = map (λ a. a.1) (reduction n F).up

-- V times R transposed
unfoldable pub times_transposed : List ℕ → List ℕ → List ℕ
times_transposed B R = map (dots R) B

-- the core E is V times R transposed
unfoldable pub core : ℕ → List ℕ → List ℕ
core n F = times_transposed (basis n F) (transform n F)

-- pEy
unfoldable pub form : List ℕ → ℕ → ℕ → Bool
form E p y = dot (times p E) y
