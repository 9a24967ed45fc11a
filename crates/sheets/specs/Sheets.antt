-- The gate sheet, byte by byte (document 02, item 8): the gate count, then 4 bytes for each gate, and turns of one byte each. The turns of gates may overlap
-- each other and the table; a sheet may be longer than what it uses.
-- Assumes nothing.
use Rattle.std.specs.Prelude.{◌≡◌, Bool, ◌&&◌, ◌||◌, not, List, [], ◌∷◌, map, ℕ, zero, suc, ◌+◌, ◌*◌, eqb, leb, ltb, length}
use Rattle.numbers.specs.Numbers.{part, number}
use Rattle.binar.specs.Bits.{bit}
use Rattle.std.specs.List.{list_all}
use Rattle.questions.specs.Replies.{ask}
use Rattle.sheets.specs.declared.SheetLine.{SheetLine}

-- a gate: how many qubits it reads, and its turns. A turn is a code of four bits: x of the first qubit, x of the second, z of the first, z of the second
pub record Gate : Type 0 where
  pub qubits : ℕ
  pub turns : List ℕ

-- the most gates of a sheet, the most turns of a gate, and the bytes of a gate's line. Plain numbers, open to users
abbrev pub most_gates : ℕ
most_gates = 64

abbrev pub most_turns : ℕ
most_turns = 6

abbrev pub line_size : ℕ
line_size = 4

-- byte 0: the gate count. An empty sheet has none, which reads as 0
unfoldable pub gate_count_lem : List ℕ → ℕ
gate_count_lem sheet = number sheet 0 1

-- the line of gate g: its qubit count, its turn count, and the 16-bit offset of its turns from the sheet's start
unfoldable pub line : List ℕ → ℕ → SheetLine
line sheet g = let at = 1 + line_size * g in record { qubits = number sheet at 1; count = number sheet (at + 1) 1; offset = number sheet (at + 2) 2 }

-- the lines of k gates from gate g on
unfoldable pub lines_from : List ℕ → ℕ → ℕ → List SheetLine
lines_from sheet zero g = []
lines_from sheet (suc k) g = line sheet g ∷ lines_from sheet k (suc g)

unfoldable pub lines : List ℕ → List SheetLine
lines sheet = lines_from sheet (gate_count_lem sheet) 0

-- the gate that a line stands for, and the gates of a sheet, in order
unfoldable pub gate_of : List ℕ → SheetLine → Gate
gate_of sheet l = record { qubits = l.qubits; turns = part sheet l.offset l.count }

unfoldable pub gates_of : List ℕ → List Gate
gates_of sheet = map (gate_of sheet) (lines sheet)

-- ---- its questions

-- are its counts in their ranges, and its turns within the sheet?
unfoldable pub line_fits_lem : List ℕ → SheetLine → Bool
line_fits_lem sheet l = (ltb 0 l.qubits && leb l.qubits 2) && (leb l.count most_turns && leb (l.offset + l.count) (length sheet))

-- is the gate count in its range, is every line there, and does every line fit?
unfoldable pub well_formed_lem : List ℕ → Bool
well_formed_lem sheet =
    (ltb 0 (gate_count_lem sheet) && leb (gate_count_lem sheet) most_gates) && (leb (1 + line_size * gate_count_lem sheet) (length sheet) && list_all (line_fits_lem sheet) (lines sheet))

-- is a turn neither zero nor above 15, and without a part on the second qubit where the gate has one qubit?
unfoldable pub turn_fits_lem : ℕ → ℕ → Bool
turn_fits_lem qubits code = (ltb 0 code && leb code 15) && (eqb qubits 2 || not (bit 1 code || bit 3 code))

unfoldable pub gate_fits_lem : Gate → Bool
gate_fits_lem g = list_all (turn_fits_lem g.qubits) g.turns

-- 15: is it well formed? Then 16: does every turn of every gate fit?
unfoldable pub sheet_questions_lem : List ℕ → ℕ
sheet_questions_lem sheet = ask (well_formed_lem sheet) 15 (ask (list_all gate_fits_lem (gates_of sheet)) 16 0)

-- of a lent sheet and the one that was in force, the one in force from now on: the lent one if it passes. Open to users
abbrev pub in_force : {A : Type 0} → ℕ → A → A → A
in_force zero lent former = lent
in_force (suc number) lent former = former

-- what is in force passes its questions where the former sheet did. Open to users
abbrev pub StaysSound : List ℕ → List ℕ → Type 0
StaysSound former now = sheet_questions_lem former ≡ 0 → sheet_questions_lem now ≡ 0
