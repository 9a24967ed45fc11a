-- A space in lent rows: its first rows are the members or the Gram matrix, d of them; d more are for sums, and behind these stands, in the same way, what a draw passes on.
-- Members count only where a row has as many columns.
-- Assumes nothing.
use Rattle.std.specs.Prelude.{Bool, true, false, List, [], ◌∷◌, ◌++◌, map, ℕ, zero, suc, ◌+◌, ◌-◌, ◌/◌, ◌%◌, ◌^◌, leb, ltb, get_or, take, drop}
use Rattle.binar.specs.Bits.{select, ◌⊕◌, bit}
use Rattle.binar.specs.Rows.{width}
use Rattle.blocks.specs.Matrices.{times, matmul, dots}
use Rattle.blocks.specs.Words.{over}

-- the numbers below m, ascending
unfoldable pub below : ℕ → List ℕ
below zero = []
below (suc m) = below m ++ (m ∷ [])

-- rows once others have been put over them from row k on: those past the end are lost
unfoldable pub over_from : ℕ → List ℕ → List ℕ → List ℕ
over_from k rows out = take k out ++ over rows (drop k out)

-- how many of d members count: none, where they are more than a row has columns
unfoldable pub counted : ℕ → ℕ
counted d = select 0 (leb d width) d

-- the Gram matrix of members B by the core E: bit j of row i is the form of members i and j
unfoldable pub gram_of : List ℕ → List ℕ → List ℕ
gram_of E B = map (dots B) (matmul B E)

-- the form that a Gram matrix gives, of member i with member j
abbrev pub form_in : List ℕ → ℕ → ℕ → Bool
form_in G i j = bit j (get_or G i 0)

-- ---- the sums of the first rows

unfoldable pub sum_to : List ℕ → ℕ → ℕ
sum_to M i = times (2 ^ suc i - 1) M

-- behind k rows, at i: the sum of rows 0 to i
unfoldable pub summed : ℕ → List ℕ → List ℕ
summed k w = over_from k (map (sum_to (take k w)) (below k)) w

-- ---- what a draw passes on

abbrev pub kept_or : Bool → ℕ → ℕ → ℕ
kept_or true kept moved = kept
kept_or false kept moved = moved

-- row i of what is passed on: row j is dropped and added to each later row of h
unfoldable pub passed_at : ℕ → ℕ → List ℕ → ℕ → ℕ
passed_at h j M i = kept_or (ltb i j) (get_or M i 0) (get_or M (i + 1) 0 ⊕ select 0 (bit (i + 1) h) (get_or M j 0))

-- a row without column j, where that is empty: the columns behind it move down by one
unfoldable pub without_column : ℕ → ℕ → ℕ
without_column j y = y % 2 ^ j ⊕ (y ⊕ y % 2 ^ j) / 2 ^ 1

-- column j is added to those of h and dropped
unfoldable pub shrunk : ℕ → ℕ → ℕ → ℕ
shrunk j h x = without_column j (x ⊕ select 0 (bit j x) h)

-- row i of the Gram matrix of what is passed on
unfoldable pub gram_at : ℕ → ℕ → List ℕ → ℕ → ℕ
gram_at h j G i = shrunk j h (passed_at h j G i)

-- what is passed on of k members, and of their Gram matrix, behind the level
unfoldable pub members_passed : ℕ → ℕ → ℕ → List ℕ → List ℕ
members_passed h j k w = over_from (k + k) (map (passed_at h j (take k w)) (below (k - 1))) w

unfoldable pub gram_passed : ℕ → ℕ → ℕ → List ℕ → List ℕ
gram_passed h j k w = over_from (k + k) (map (gram_at h j (take k w)) (below (k - 1))) w
