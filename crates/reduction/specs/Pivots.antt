-- What a reduction promises of its pivots, the columns that carried the rank. Rows that are reduced.
-- Assumes nothing.
use Rattle.std.specs.Prelude.{◌≡◌, true, false, List, ℕ, ◌<◌, length, get_or}
use Rattle.binar.specs.Bits.{bit}

-- for each i below the rank, row i has its first one (its lowest column) at pivot i
abbrev pub FirstOnes : ℕ → List ℕ → List ℕ → Type 0
FirstOnes rank pivots rows =
    (i : ℕ) → i < rank → (bit (get_or pivots i 0) (get_or rows i 0) ≡ true) × ((k : ℕ) → k < get_or pivots i 0 → bit k (get_or rows i 0) ≡ false)

-- and no other row has a one there
abbrev pub NoOtherOnes : ℕ → List ℕ → List ℕ → Type 0
NoOtherOnes rank pivots rows = (i j : ℕ) → i < rank → (j ≡ i → ⊥) → bit (get_or pivots i 0) (get_or rows j 0) ≡ false

-- the pivots ascend strictly
abbrev pub Ascending : ℕ → List ℕ → Type 0
Ascending rank pivots = (i j : ℕ) → i < j → j < rank → get_or pivots i 0 < get_or pivots j 0

-- rows that are reduced: each has its first one at a pivot, no other row has a one there, and the pivots ascend
abbrev pub ReducedRows : List ℕ → Type 0
ReducedRows rows =
    (pivots : List ℕ) × (length pivots ≡ length rows) × FirstOnes (length rows) pivots rows × NoOtherOnes (length rows) pivots rows × Ascending (length rows) pivots
