-- The whole printout of a job file: two lines an entry, in order.
-- Assumes nothing.
use mathlib.Core.List.{List, [], ◌∷◌, flatten}
use Rattle.std.specs.Prelude.{ℕ, zero, suc, ◌+◌, ◌*◌, take, drop, replicate}
use Rattle.questions.specs.Replies.{Reply, refused}
use Rattle.gates.specs.Sequences.{table_reply}
use Rattle.transvection.specs.Greedy.{greedy_reply}
use Rattle.transvection_exact.specs.Minimal.{minimal_reply}
use Rattle.numbers.specs.Numbers.{little_endian, part}
use Rattle.job.specs.Files.{qubit_count_lem, entry_count_lem, Entry, entry, part_size_lem, file_questions_lem}
use Rattle.lines.specs.declared.Name.{Name}
use Rattle.lines.specs.declared.Name.TheVariants.{Min, Greedy}
use Rattle.lines.specs.Lines.{line, file_line_lem}
use Rattle.lines.specs.Bytes.{name_bytes}

-- the program's budget. A plain number, open to users
abbrev pub job_budget : ℕ
job_budget = 1000000

-- the words that the program lends to its own calls
abbrev pub blank_words : ℕ → List ℕ
blank_words k = replicate k 0

-- 4n + 2 of them for a list of n qubits, minimal or greedy: enough for either
abbrev pub list_words : ℕ → List ℕ
list_words n = blank_words (4 * n + 2)

-- k words of 8 bytes
unfoldable pub words_of_bytes : ℕ → List ℕ → List ℕ
words_of_bytes zero bytes = []
words_of_bytes (suc k) bytes = little_endian (take 8 bytes) ∷ words_of_bytes k (drop 8 bytes)

-- the answer that holds an entry's action: given, or made from its gates
abbrev pub action_by : ℕ → ℕ → ℕ → List ℕ → Reply
action_by zero n count bytes = record { figures = record { number = 0; count = count; looks = 0 }; words = words_of_bytes count bytes }
action_by (suc kind) n count bytes = table_reply n bytes (blank_words (n + n))

unfoldable pub entry_action : List ℕ → Entry → Reply
entry_action file e = action_by e.kind (qubit_count_lem file) e.count (part file e.offset (part_size_lem e))

-- a refused gate sequence puts its number on both lines
abbrev pub unless_refused_action : Reply → (List ℕ → Reply) → ℕ → Reply
unless_refused_action action call zero = call action.words
unless_refused_action action call (suc number) = refused (suc number) 0 []

-- the reply of the call that a line's name stands for
abbrev pub call_reply : Name → ℕ → List ℕ → List ℕ → Reply
call_reply Min n rows out = minimal_reply n rows job_budget out
call_reply Greedy n rows out = greedy_reply n rows out

-- the line of a name, of the action of entry i
unfoldable pub entry_line : List ℕ → ℕ → Name → List ℕ
entry_line file i which =
    let n = qubit_count_lem file in
    let action = entry_action file (entry file i) in
    line n i (name_bytes which) (unless_refused_action action (λ rows. call_reply which n rows (list_words n)) action.figures.number)

-- the lines of k entries from entry i on: the minimal list of each entry, then its greedy list
unfoldable pub entry_lines : List ℕ → ℕ → ℕ → List (List ℕ)
entry_lines file zero i = []
entry_lines file (suc k) i = entry_line file i Min ∷ entry_line file i Greedy ∷ entry_lines file k (suc i)

-- the lines of a file that passes its questions
unfoldable pub file_lines : List ℕ → List (List ℕ)
file_lines file = entry_lines file (entry_count_lem file) 0

-- a refused file prints only `file` and the number
abbrev pub printed : ℕ → List ℕ → List ℕ
printed zero file = flatten (file_lines file)
printed (suc number) file = file_line_lem (suc number)

-- all entries pass before anything is printed
unfoldable pub printout : List ℕ → List ℕ
printout file = printed (file_questions_lem file) file
