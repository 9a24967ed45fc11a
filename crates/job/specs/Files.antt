-- The job file: little-endian; n, the entry count k, k entries of 8 bytes, and their parts, which may overlap.
-- Assumes nothing.
use Rattle.std.specs.Prelude.{Bool, true, ◌&&◌, List, ℕ, zero, suc, ◌+◌, ◌*◌, eqb, leb, ltb, length}
use Rattle.questions.specs.Replies.{ask, size_question}
use Rattle.numbers.specs.Numbers.{number}

-- the most bytes of a file, those before its entries, and those of an entry. Plain numbers, open to users
abbrev pub longest_file : ℕ
longest_file = 65536

abbrev pub head_size : ℕ
head_size = 4

abbrev pub entry_size : ℕ
entry_size = 8

-- bytes 0-1: n; bytes 2-3: the entry count
unfoldable pub qubit_count_lem : List ℕ → ℕ
qubit_count_lem file = number file 0 2

unfoldable pub entry_count_lem : List ℕ → ℕ
entry_count_lem file = number file 2 2

-- an entry: kind (0 action, 1 gates), a zero byte, 16-bit count of rows or gates, 32-bit offset from the file's start
pub record Entry : Type 0 where
  pub kind : ℕ
  pub zero_byte : ℕ
  pub count : ℕ
  pub offset : ℕ

unfoldable pub entry : List ℕ → ℕ → Entry
entry file i =
    let at = head_size + entry_size * i in
    record { kind = number file at 1; zero_byte = number file (at + 1) 1; count = number file (at + 2) 2; offset = number file (at + 4) 4 }

-- action rows take 8 bytes, gates 3
abbrev pub item_size : ℕ → ℕ
item_size zero = 8
item_size (suc kind) = 3

unfoldable pub part_size_lem : Entry → ℕ
part_size_lem e = item_size e.kind * e.count

-- is its kind 0 or 1, its second byte 0, and its offset plus its size at most the file's length?
unfoldable pub entry_passes_lem : List ℕ → Entry → Bool
entry_passes_lem file e = ltb e.kind 2 && (eqb e.zero_byte 0 && leb (e.offset + part_size_lem e) (length file))

-- the first k entries
unfoldable pub entries_pass_lem : List ℕ → ℕ → Bool
entries_pass_lem file zero = true
entries_pass_lem file (suc k) = entries_pass_lem file k && entry_passes_lem file (entry file k)

-- 12: is it 4 to 65,536 bytes and at least 4 + 8k? 1: is n at most the most qubits? Then 13, for each entry
unfoldable pub file_questions_lem : List ℕ → ℕ
file_questions_lem file =
    ask (leb head_size (length file) && (leb (length file) longest_file && leb (head_size + entry_size * entry_count_lem file) (length file))) 12
    (size_question (qubit_count_lem file) (ask (entries_pass_lem file (entry_count_lem file)) 13 0))
