-- What a row of the code is worth. Crates above know a row by its value and the width, and by nothing else.
-- Assumes nothing.
use Rattle.std.specs.Prelude.{ℕ, ◌%◌, ◌^◌}
use Rattle.std.specs.Int.Count.{count_trailing_zeros}
use Rattle.binar.specs.declared.Row.{Row}

-- how many columns a row has: a plain number, open to users
abbrev pub width : ℕ
width = 64

-- one more than the highest value of a row
unfoldable pub row_bound : ℕ
row_bound = 2 ^ width

unfoldable pub val : Row → ℕ
val r = r.word

-- row k of the identity; 0 from the width on
unfoldable pub unit : ℕ → ℕ
unit k = 2 ^ k % row_bound

-- the column of the lowest one; the width where there is none
unfoldable pub lowest : ℕ → ℕ
lowest v = count_trailing_zeros width v
