-- Matrices as lists of rows, of any width: vector times matrix, the product of two, the identity.
-- Assumes nothing.
use Rattle.std.specs.Prelude.{List, [], ◌∷◌, map, ℕ, zero, suc, ◌+◌, ◌*◌, ◌/◌}
use Rattle.binar.specs.Bits.{select, digit, odd, ◌⊕◌, dot}

-- the sum of the rows M_i over the ones i of c (the source's `right_multiply`)
unfoldable pub times : ℕ → List ℕ → ℕ
times c [] = 0
times c (v ∷ M) = times (c / 2) M ⊕ select 0 (odd c) v

-- the product of two matrices: each row of the first times the second
unfoldable pub matmul : List ℕ → List ℕ → List ℕ
matmul A B = map (λ a. times a B) A

-- the identity: the unit rows of m columns
unfoldable pub units : ℕ → List ℕ
units zero = []
units (suc m) = 1 ∷ map (λ u. u * 2) (units m)

-- the row whose bit i is the dot of v and row i: v times the matrix transposed
unfoldable pub dots : List ℕ → ℕ → ℕ
dots [] v = 0
dots (x ∷ M) v = dots M v * 2 + digit (dot v x)

-- every member of a list
abbrev pub All : {A : Type 0} → (A → Type 0) → List A → Type 0
All P [] = Unit {0}
All P (x ∷ xs) = P x × All P xs
