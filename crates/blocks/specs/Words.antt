-- Lent words as rows of n qubits, and rows laid into lent words. A row takes one word.
-- Assumes nothing.
use Rattle.std.specs.Prelude.{List, ◌++◌, map, ℕ, ◌/◌, ◌%◌, ◌^◌, length, take, drop}
use Rattle.binar.specs.Rows.{width}

-- the rows that lent words hold
unfoldable pub rows_of_words : ℕ → List ℕ → List ℕ
rows_of_words n ws = ws

-- the word that a row takes: its lowest 64 columns, which are all that a row of a word has
unfoldable pub word_of : ℕ → ℕ
word_of v = v % 2 ^ 64

-- the words that rows take
unfoldable pub words_of_rows : ℕ → List ℕ → List ℕ
words_of_rows n rows = map word_of rows

-- lent words once rows have been laid from their start: the other words are unchanged, and rows past the end are lost
unfoldable pub laid : ℕ → List ℕ → List ℕ → List ℕ
laid n rows out = take (length out) (words_of_rows n rows ++ drop (length (words_of_rows n rows)) out)

-- ---- words lent for work

-- the rows that they hold, each with all columns of a row: two for each qubit
abbrev pub rows_in_lem : List ℕ → List ℕ
rows_in_lem ws = rows_of_words (width / 2) ws

-- how many words k of them take
unfoldable pub words_for : ℕ → ℕ
words_for k = k

-- rows once others have been put over them from their start: those past the end are lost
unfoldable pub over : List ℕ → List ℕ → List ℕ
over rows out = take (length out) (rows ++ drop (length rows) out)
