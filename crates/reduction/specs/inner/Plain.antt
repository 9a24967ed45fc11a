-- The reduction of the rows alone, for laws that no transform comes into.
-- Assumes nothing.
use Rattle.std.specs.Prelude.{List, ℕ}
use Rattle.binar.specs.Bits.{bit, ◌⊕◌}
use Rattle.reduction.specs.Columns.{Echelon, unreduced, columns}

-- the rows of a matrix reduced by its first m columns
unfoldable pub reduced : ℕ → List ℕ → Echelon ℕ
reduced m M = columns 0 ◌⊕◌ bit m 0 (unreduced M)
