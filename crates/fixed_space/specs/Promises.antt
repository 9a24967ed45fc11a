-- What the call promises of the rows that it lists. Open to users.
-- Assumes nothing.
use Rattle.std.specs.Prelude.{◌≡◌, List, ℕ, ◌+◌, ◌^◌, ◌<◌, take}
use Rattle.blocks.specs.Matrices.{times, All}
use Rattle.blocks.specs.Words.{rows_of_words}
use Rattle.questions.specs.declared.Figures.{Figures}
use Rattle.symplectic.specs.Turns.{identity_plus}
use Rattle.reduction.specs.Columns.{rank}
use Rattle.reduction.specs.Pivots.{ReducedRows}

-- F leaves v, a vector of 2n columns, in place
abbrev pub Fixed : ℕ → List ℕ → ℕ → Type 0
Fixed n F v = (times v F ≡ v) × (v < 2 ^ (n + n))

-- every vector that F leaves in place is a sum of the rows
abbrev pub Spanning : ℕ → List ℕ → List ℕ → Type 0
Spanning n F rows = (v : ℕ) → Fixed n F v → (c : ℕ) × (times c rows ≡ v)

-- of an answer: each listed vector is left in place
abbrev pub InPlace : ℕ → List ℕ → List ℕ → Figures → Type 0
InPlace n rows left t = t.number ≡ 0 → All (Fixed n (rows_of_words n rows)) (take t.count (rows_of_words n left))

-- no other one is, but the sums of those listed
abbrev pub Complete : ℕ → List ℕ → List ℕ → Figures → Type 0
Complete n rows left t = t.number ≡ 0 → Spanning n (rows_of_words n rows) (take t.count (rows_of_words n left))

-- those listed are reduced, with ascending pivots
abbrev pub Reduced : ℕ → List ℕ → Figures → Type 0
Reduced n left t = t.number ≡ 0 → ReducedRows (take t.count (rows_of_words n left))

-- the count is 2n - r, with r the rank of I + F
abbrev pub Counted : ℕ → List ℕ → Figures → Type 0
Counted n rows t = t.number ≡ 0 → t.count + rank (n + n) (identity_plus n (rows_of_words n rows)) ≡ n + n
