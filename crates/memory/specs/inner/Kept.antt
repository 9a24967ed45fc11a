-- What words hold as a memory while a search goes on.
-- Assumes nothing.
use Rattle.std.specs.Prelude.{◌≡◌, List, ℕ, ◌^◌, ◌≤◌, ◌<◌, length, take}
use Rattle.binar.specs.Rows.{width}
use Rattle.blocks.specs.Matrices.{All}
use Rattle.triangular.specs.Memory.{Entry}
use Rattle.memory.specs.Entries.{memory_words}

-- rows that an entry has room for
abbrev pub Fits : List ℕ → Type 0
Fits rs = (length rs ≤ width) × All (λ v. v < 2 ^ width) rs

-- the first `used` words are the entries M, each with as many rows as its dimension
abbrev pub Kept : List ℕ → ℕ → List Entry → Type 0
Kept ws used M =
    (take used ws ≡ memory_words M) × (used ≡ length (memory_words M)) × All (λ e. (e.dimension ≡ length e.basis) × Fits e.basis) M
