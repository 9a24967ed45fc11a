-- The promise of the calls that list turns as short as any: no list is shorter. The least length of an action.
-- Assumes nothing.
use Rattle.std.specs.Prelude.{◌≡◌, List, ℕ, ◌+◌, ◌^◌, ◌≤◌, ◌<◌, length}
use Rattle.blocks.specs.Matrices.{All}
use Rattle.symplectic.specs.Turns.{product}

-- every list of vectors on 2n columns, zeros and repeats allowed, whose product is F has at least as many entries as the count
abbrev pub NoneShorter : ℕ → List ℕ → ℕ → Type 0
NoneShorter n F count = (ws : List ℕ) → All (λ w. w < 2 ^ (n + n)) ws → product n ws ≡ F → count ≤ length ws

-- the least length of F: a list of so many vectors on 2n columns has the product F, and none is shorter
abbrev pub LeastLength : ℕ → List ℕ → ℕ → Type 0
LeastLength n F count = ((vs : List ℕ) × All (λ v. v < 2 ^ (n + n)) vs × (product n vs ≡ F) × (length vs ≡ count)) × NoneShorter n F count
