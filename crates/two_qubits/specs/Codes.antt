-- The code of a two-qubit action: 16 bits, row i in bits 4i to 4i + 3.
-- Assumes nothing.
use Rattle.std.specs.Prelude.{List, [], ◌∷◌, ℕ, ◌+◌, ◌*◌, ◌/◌, ◌%◌}

-- how many codes there are. A plain number, open to users
abbrev pub code_count : ℕ
code_count = 65536

-- the rows of a code
unfoldable pub rows_of_code : ℕ → List ℕ
rows_of_code code = code % 16 ∷ code / 16 % 16 ∷ code / 256 % 16 ∷ code / 4096 % 16 ∷ []

-- the code of rows of 4 columns
unfoldable pub code_of : List ℕ → ℕ
code_of [] = 0
code_of (v ∷ rows) = v + 16 * code_of rows
