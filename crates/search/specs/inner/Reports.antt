-- What the functions of a search take and tell: a space in lent rows, a memory in lent words, and how a search with a memory ended under a budget.
-- Assumes nothing.
use Rattle.std.specs.Prelude.{◌≡◌, List, ℕ, ◌^◌, ◌≤◌, ◌<◌, length, take, drop}
use Rattle.binar.specs.Rows.{width}
use Rattle.blocks.specs.Matrices.{All}
use Rattle.triangular.specs.declared.Ending.{Ending}
use Rattle.triangular.specs.Search.{budgeted}
use Rattle.triangular.specs.Memory.{Entry, Remembered, known_within}
use Rattle.triangular.specs.Readings.{verdict_of}
use Rattle.memory.specs.inner.Kept.{Kept}
use Rattle.spaces.specs.Levels.{gram_of}

-- the first d rows are members of a space and their Gram matrix by the core E
abbrev pub Space : List ℕ → ℕ → List ℕ → List ℕ → Type 0
Space E d basis gram = (gram_of E (take d basis) ≡ take d gram) × All (λ v. v < 2 ^ width) (take d basis)

-- the first `used` words are the entries M, made by now
abbrev pub Carries : ℕ → List ℕ → ℕ → List Entry → Type 0
Carries looks ws used M = Kept ws used M × All (λ e. e.looks ≤ looks) M

-- the words in use only grow, and those past them are as they were
abbrev pub Grew : List ℕ → ℕ → List ℕ → ℕ → Type 0
Grew ws used left now-used = (used ≤ now-used) × (now-used ≤ length left) × (drop now-used left ≡ drop now-used ws)

-- an ending, its looks, what was found and the memory are those of a search cut at the budget
abbrev pub Reports : ℕ → Remembered → Ending → ℕ → List ℕ → List ℕ → ℕ → Type 0
Reports budget r ending looks list ws used = (verdict_of ending looks list ≡ budgeted budget r.outcome) × Kept ws used (known_within budget r.memory)
