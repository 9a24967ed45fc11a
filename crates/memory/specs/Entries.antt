-- A memory in lent words (document 02, item 6): whole entries, one behind the other, of 65 words each.
-- Assumes nothing.
use Rattle.std.specs.Prelude.{Bool, true, false, ◌&&◌, ◌||◌, List, [], ◌∷◌, ◌++◌, ℕ, zero, suc, ◌/◌, eqb, leb, length, get_or, take, drop, replicate}
use Rattle.binar.specs.Rows.{width}
use Rattle.blocks.specs.Words.{laid, rows_in_lem}
use Rattle.symplectic.specs.Matches.{same_rows}
use Rattle.triangular.specs.Memory.{Entry}

-- how many words an entry takes: a plain number, open to users
abbrev pub entry_size : ℕ
entry_size = 65

-- the words of an entry: the dimension d, the d rows of the reduced basis, the rest zero
unfoldable pub entry_words : ℕ → List ℕ → List ℕ
entry_words d rs = d ∷ laid (width / 2) rs (replicate 64 0)

-- the words of all entries, in order
unfoldable pub memory_words : List Entry → List ℕ
memory_words [] = []
memory_words (e ∷ M) = entry_words e.dimension e.basis ++ memory_words M

-- for how many entries lent words have room
unfoldable pub room_in : List ℕ → ℕ
room_in ws = length ws / entry_size

-- ---- what is read and put

-- whether one of the first k entries in words has as many rows as rs, and has these
unfoldable pub held_in : ℕ → List ℕ → List ℕ → Bool
held_in zero rs ws = false
held_in (suc k) rs ws =
    (eqb (get_or ws 0 0) (length rs) && same_rows (take (length rs) (rows_in_lem (take 64 (drop 1 ws)))) rs) || held_in k rs (drop entry_size ws)

abbrev pub entered_if : Bool → List ℕ → List ℕ → List ℕ
entered_if true rs ws = entry_words (length rs) rs ++ drop entry_size ws
entered_if false rs ws = ws

-- words once the space with reduced basis rs has been entered at their start, if there is room for a whole entry
unfoldable pub entered : List ℕ → List ℕ → List ℕ
entered rs ws = entered_if (leb entry_size (length ws)) rs ws

abbrev pub taken_if : Bool → ℕ
taken_if true = entry_size
taken_if false = 0

-- how many words it then takes
unfoldable pub taken : List ℕ → ℕ
taken ws = taken_if (leb entry_size (length ws))
