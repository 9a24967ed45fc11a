-- Gate sequences: 3 bytes a gate (gate, a, b), in order, as turns of the gates of a sheet. Bytes short of a last whole gate are not read; b is not read for a gate
-- of one qubit.
-- Assumes nothing.
use Rattle.std.specs.Prelude.{Bool, ◌&&◌, ◌||◌, not, List, [], ◌∷◌, ◌++◌, map, ℕ, ◌+◌, ◌^◌, eqb, ltb, length, get_or}
use Rattle.binar.specs.Bits.{select, bit, ◌⊕◌}
use Rattle.blocks.specs.Words.{rows_of_words}
use Rattle.symplectic.specs.Turns.{product}
use Rattle.questions.specs.Replies.{Reply, listed, ask, and_then, unless_refused, size_question, count_question}
use Rattle.sheets.specs.Sheets.{Gate, gates_of, sheet_questions_lem}
use Rattle.sheets.specs.Six.{table}

-- the vector of a turn on qubits a and b of n
unfoldable pub turn_vector_lem : ℕ → ℕ → ℕ → ℕ → ℕ
turn_vector_lem n a b code =
    select 0 (bit 0 code) (2 ^ a) ⊕ select 0 (bit 1 code) (2 ^ b) ⊕ select 0 (bit 2 code) (2 ^ (n + a)) ⊕ select 0 (bit 3 code) (2 ^ (n + b))

-- past the last gate: no turns. Plain data, open to users
abbrev pub no_gate : Gate
no_gate = record { qubits = 0; turns = [] }

unfoldable pub gate : List Gate → ℕ → Gate
gate gates g = get_or gates g no_gate

-- whether b is read
unfoldable pub reads_two : Gate → Bool
reads_two g = eqb g.qubits 2

-- of a gate that is there or not, and reads two qubits or one. 9: is the gate on the sheet? 10: are the qubits read below n? 11: do the two differ?
unfoldable pub gate_questions : ℕ → Bool → Bool → ℕ → ℕ → ℕ
gate_questions n there two a b = ask there 9 (ask (ltb a n && (not two || ltb b n)) 10 (ask (not two || not (eqb a b)) 11 0))

-- gate by gate
unfoldable pub sequence_questions : ℕ → List Gate → List ℕ → ℕ
sequence_questions n gates [] = 0
sequence_questions n gates (g ∷ []) = 0
sequence_questions n gates (g ∷ a ∷ []) = 0
sequence_questions n gates (g ∷ a ∷ b ∷ rest) =
    and_then (gate_questions n (ltb g (length gates)) (reads_two (gate gates g)) a b) (sequence_questions n gates rest)

-- the turns of the gates, in order
unfoldable pub sequence_turns : ℕ → List Gate → List ℕ → List ℕ
sequence_turns n gates [] = []
sequence_turns n gates (g ∷ []) = []
sequence_turns n gates (g ∷ a ∷ []) = []
sequence_turns n gates (g ∷ a ∷ b ∷ rest) = map (turn_vector_lem n a b) (gate gates g).turns ++ sequence_turns n gates rest

-- questions 1, 2 of the output rows, then what the sheet of the gates is refused with, if anything, then 9, 10, 11 gate by gate; the answer is the 2n rows of the action
unfoldable pub sequence_reply : ℕ → ℕ → List Gate → List ℕ → List ℕ → Reply
sequence_reply n sheetAsked gates bytes out =
    unless_refused (size_question n (count_question n (rows_of_words n out) (and_then sheetAsked (sequence_questions n gates bytes)))) out
    (listed n (product n (sequence_turns n gates bytes)) 0 out)

-- with the sheet in force, of which 15 and then 16 are asked
unfoldable pub gates_reply : ℕ → List ℕ → List ℕ → List ℕ → Reply
gates_reply n sheet bytes out = sequence_reply n (sheet_questions_lem sheet) (gates_of sheet) bytes out

-- with document 01's table, of which nothing is asked
unfoldable pub table_reply : ℕ → List ℕ → List ℕ → Reply
table_reply n bytes out = sequence_reply n 0 table bytes out
