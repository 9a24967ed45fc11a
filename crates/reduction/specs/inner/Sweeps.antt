-- A column's step where all rows stand in one list, and what words that a matrix was reduced in hold.
-- Assumes nothing.
use Rattle.std.specs.Prelude.{◌≡◌, List, map, ℕ, take, drop, get_or, set}
use Rattle.binar.specs.Bits.{bit}
use Rattle.symplectic.specs.Picks.{add_both}
use Rattle.reduction.specs.Columns.{Echelon, rows, clear, row_reduce_with_transform_lem, rank}

-- all rows with the pivot row at p, and the pivots
abbrev pub halves : {A : Type 0} → ℕ → List ℕ → List A → Echelon A
halves p ps l = record { up = take p l; down = drop p l; pivots = ps }

-- the rows p and j exchanged
abbrev pub swapped : {A : Type 0} → A → ℕ → ℕ → List A → List A
swapped d p j l = set (set l p (get_or l j d)) j (get_or l p d)

-- rows beside those of the transform: x added to each that has column c
abbrev pub cleared : ℕ → ℕ × ℕ → List (ℕ × ℕ) → List (ℕ × ℕ)
cleared c x l = map (clear (0, 0) add_both (λ a. bit c a.0) x) l

-- column c cleared from every row but row p
abbrev pub swept : ℕ → ℕ → List (ℕ × ℕ) → List (ℕ × ℕ)
swept c p l = set (cleared c (get_or l p (0, 0)) l) p (get_or l p (0, 0))

-- the rank, rows, transform and pivots of M reduced by its first m columns
abbrev pub ReducedIn : ℕ → List ℕ → ℕ → List ℕ → List ℕ → List ℕ → Type 0
ReducedIn m M r R T ps =
    let all = row_reduce_with_transform_lem m M in
    (r ≡ rank m M) × (R ≡ map (λ a. a.0) (rows all)) × (T ≡ map (λ a. a.1) (rows all)) × (ps ≡ all.pivots)
