-- The starred bench examples of document 01, and examples of the fixed space, of the shorter list, of the commutation chart, of a lent
-- memory, of gate sheets and of self-inverse layers (document 02, items 3 to 6, 8 and 9), as tables of calls and expected answers.
-- Expected values are literals.
-- In each call the lent output words and memory hold 9 at entry, so that the words left unchanged can be seen. The actions of H and CX are made
-- from document 01's gate sheet.
-- Assumes nothing.
use Rattle.std.specs.Prelude.{List, [], ◌∷◌, ◌++◌, map, ℕ, ◌+◌, ◌-◌, length, replicate}
use Rattle.binar.specs.Bits.{digit}
use Rattle.questions.specs.Replies.{Reply}
use Rattle.sheets.specs.Sheets.{sheet_questions_lem, in_force}
use Rattle.sheets.specs.Six.{six_gates_lem}
use Rattle.gates.specs.Sequences.{gates_reply, table_reply}
use Rattle.shorter.specs.declared.Chosen.{Chosen}
use Rattle.shorter.specs.Shorter.{shorter_reply, part_of}
use Rattle.fixed_space.specs.FixedSpace.{fixed_reply}
use Rattle.self_inverse.specs.SelfInverse.{self_inverse_reply}
use Rattle.transvection.specs.Greedy.{greedy_reply}
use Rattle.transvection_exact.specs.Minimal.{minimal_reply, remembering_reply, memory_left}
use Rattle.letters.specs.declared.Letter.{Letter}
use Rattle.letters.specs.declared.Letter.TheVariants.{I, X, Y, Z}
use Rattle.letters.specs.Letters.{alphabet, chart}
use Rattle.printout.specs.Printout.{printout}

-- a public call and what it is given
pub data Call : Type 0 where
  -- n, rows, budget, how many output words are lent
  minimal : ℕ → List ℕ → ℕ → ℕ → Call
  -- n, rows, budget, how many words of memory and output words are lent
  remembering : ℕ → List ℕ → ℕ → ℕ → ℕ → Call
  -- n, rows, how many output words are lent
  greedy : ℕ → List ℕ → ℕ → Call
  -- n, rows, how many output words are lent
  fixed : ℕ → List ℕ → ℕ → Call
  -- n, rows, a list, how many output words are lent
  is_self_inverse : ℕ → List ℕ → List ℕ → ℕ → Call
  -- n, rows, the first list, the second list
  shorter : ℕ → List ℕ → List ℕ → List ℕ → Call
  -- n, the sheet in force, the bytes of a gate sequence, how many output rows are lent
  gates : ℕ → List ℕ → List ℕ → ℕ → Call
  -- a lent sheet, and the one that was in force
  load : List ℕ → List ℕ → Call
  -- the bytes of a job file
  job : List ℕ → Call
  -- a row of the chart
  charted : Letter → Call

-- a call's whole answer
pub data Answer : Type 0 where
  -- number, count, looks, and the output words as the call leaves them
  replies : ℕ → ℕ → ℕ → List ℕ → Answer
  -- the same, and the memory as the call leaves it
  recalls : ℕ → ℕ → ℕ → List ℕ → List ℕ → Answer
  -- number, which list, and the part that comes back
  picks : ℕ → ℕ → List ℕ → Answer
  -- number, and the sheet in force
  puts : ℕ → List ℕ → Answer
  -- the bytes printed
  shown : List ℕ → Answer
  -- what the letter pairs to with I, X, Y, Z
  pairs : List ℕ → Answer

abbrev pub replied : Reply → Answer
replied r = replies r.figures.number r.figures.count r.figures.looks r.words

abbrev pub recalled : Reply → List ℕ → Answer
recalled r memory = recalls r.figures.number r.figures.count r.figures.looks r.words memory

-- the 65 words of an entry: dimension, rows, the rest zero
abbrev pub entry : ℕ → List ℕ → List ℕ
entry d rows = d ∷ (rows ++ replicate (64 - length rows) 0)

abbrev pub picked : List ℕ → List ℕ → Chosen → Answer
picked first second c = picks c.number c.list (part_of c.list first second)

unfoldable pub answer : Call → Answer
answer (minimal n rows budget lent) = replied (minimal_reply n rows budget (replicate lent 9))
answer (remembering n rows budget words lent) = let memory : List ℕ = replicate words 9 in let out : List ℕ = replicate lent 9 in recalled (remembering_reply n rows budget memory out) (memory_left n rows budget memory out)
answer (greedy n rows lent) = replied (greedy_reply n rows (replicate lent 9))
answer (fixed n rows lent) = replied (fixed_reply n rows (replicate lent 9))
answer (is_self_inverse n rows vs lent) = replied (self_inverse_reply n rows vs (replicate lent 9))
answer (shorter n rows first second) = picked first second (shorter_reply n rows first second)
answer (gates n sheet bytes lent) = replied (gates_reply n sheet bytes (replicate lent 9))
answer (load lent former) = puts (sheet_questions_lem lent) (in_force (sheet_questions_lem lent) lent former)
answer (job file) = shown (printout file)
answer (charted a) = pairs (map (λ b. digit (chart a b)) alphabet)

-- the rows of a gate sequence: gate, a, b for each gate
abbrev pub played : ℕ → List ℕ → List ℕ
played n bytes = (table_reply n bytes (replicate (n + n) 9)).words

pub record Example : Type 0 where
  pub call : Call
  pub expected : Answer

infix 30 ◌gives◌
abbrev pub ◌gives◌ : Call → Answer → Example
c gives a = record { call = c; expected = a }

unfoldable pub table : List Example
table =
    -- n = 0: empty list, looks 0
    (minimal 0 [] 0 1 gives replies 0 0 0 (9 ∷ []))
    ∷ (greedy 0 [] 2 gives replies 0 0 0 (9 ∷ 9 ∷ []))
    -- identity, n = 2, budget 0: empty
    ∷ (minimal 2 (1 ∷ 2 ∷ 4 ∷ 8 ∷ []) 0 5 gives replies 0 0 0 (9 ∷ 9 ∷ 9 ∷ 9 ∷ 9 ∷ []))
    -- H, n = 1, budget 1: Y, looks 1; budget 0: 6, looks 0
    ∷ (minimal 1 (played 1 (0 ∷ 0 ∷ 0 ∷ [])) 1 3 gives replies 0 1 1 (3 ∷ 9 ∷ 9 ∷ []))
    ∷ (minimal 1 (played 1 (0 ∷ 0 ∷ 0 ∷ [])) 0 3 gives replies 6 0 0 (9 ∷ 9 ∷ 9 ∷ []))
    -- H on both of n = 2: minimal YI IY, looks 2; greedy IY YI; budget 1: 6, looks 1
    ∷ (minimal 2 (played 2 (0 ∷ 0 ∷ 0 ∷ 0 ∷ 1 ∷ 0 ∷ [])) 2 5 gives replies 0 2 2 (5 ∷ 10 ∷ 9 ∷ 9 ∷ 9 ∷ []))
    ∷ (greedy 2 (played 2 (0 ∷ 0 ∷ 0 ∷ 0 ∷ 1 ∷ 0 ∷ [])) 10 gives replies 0 2 0 (10 ∷ 5 ∷ 9 ∷ 9 ∷ 9 ∷ 9 ∷ 9 ∷ 9 ∷ 9 ∷ 9 ∷ []))
    ∷ (minimal 2 (played 2 (0 ∷ 0 ∷ 0 ∷ 0 ∷ 1 ∷ 0 ∷ [])) 1 5 gives replies 6 0 1 (9 ∷ 9 ∷ 9 ∷ 9 ∷ 9 ∷ []))
    -- CX 0 1, budget 0: ZI ZX IX, both lists
    ∷ (minimal 2 (played 2 (3 ∷ 0 ∷ 1 ∷ [])) 0 5 gives replies 0 3 0 (4 ∷ 6 ∷ 2 ∷ 9 ∷ 9 ∷ []))
    ∷ (greedy 2 (played 2 (3 ∷ 0 ∷ 1 ∷ [])) 10 gives replies 0 3 0 (4 ∷ 6 ∷ 2 ∷ 9 ∷ 9 ∷ 9 ∷ 9 ∷ 9 ∷ 9 ∷ 9 ∷ []))
    -- SWAP: ZZ YY XX, both lists, and the printout of its job file
    ∷ (minimal 2 (played 2 (5 ∷ 0 ∷ 1 ∷ [])) 0 5 gives replies 0 3 0 (12 ∷ 15 ∷ 3 ∷ 9 ∷ 9 ∷ []))
    ∷ (greedy 2 (played 2 (5 ∷ 0 ∷ 1 ∷ [])) 10 gives replies 0 3 0 (12 ∷ 15 ∷ 3 ∷ 9 ∷ 9 ∷ 9 ∷ 9 ∷ 9 ∷ 9 ∷ 9 ∷ []))
    -- 0 min 0 3 6 0 ZZ YY XX, then 0 greedy 0 3 6 0 ZZ YY XX (the load of document 02, item 1)
    ∷ (job (2 ∷ 0 ∷ 1 ∷ 0 ∷ 1 ∷ 0 ∷ 1 ∷ 0 ∷ 12 ∷ 0 ∷ 0 ∷ 0 ∷ 5 ∷ 0 ∷ 1 ∷ []) gives shown (48 ∷ 32 ∷ 109 ∷ 105 ∷ 110 ∷ 32 ∷ 48 ∷ 32 ∷ 51 ∷ 32 ∷ 54 ∷ 32 ∷ 48 ∷ 32 ∷ 90 ∷ 90 ∷ 32 ∷ 89 ∷ 89 ∷ 32 ∷ 88 ∷ 88 ∷ 10 ∷ 48 ∷ 32 ∷ 103 ∷ 114 ∷ 101 ∷ 101 ∷ 100 ∷ 121 ∷ 32 ∷ 48 ∷ 32 ∷ 51 ∷ 32 ∷ 54 ∷ 32 ∷ 48 ∷ 32 ∷ 90 ∷ 90 ∷ 32 ∷ 89 ∷ 89 ∷ 32 ∷ 88 ∷ 88 ∷ 10 ∷ []))
    -- n = 1, both rows Z: 4
    ∷ (minimal 1 (2 ∷ 2 ∷ []) 1000000 3 gives replies 4 0 0 (9 ∷ 9 ∷ 9 ∷ []))
    ∷ (greedy 1 (2 ∷ 2 ∷ []) 6 gives replies 4 0 0 (9 ∷ 9 ∷ 9 ∷ 9 ∷ 9 ∷ 9 ∷ []))
    -- n = 33: 1
    ∷ (minimal 33 [] 1000000 3 gives replies 1 0 0 (9 ∷ 9 ∷ 9 ∷ []))
    ∷ (greedy 33 [] 3 gives replies 1 0 0 (9 ∷ 9 ∷ 9 ∷ []))
    -- CX 1 1, n = 2: 11
    ∷ (gates 2 six_gates_lem (3 ∷ 1 ∷ 1 ∷ []) 4 gives replies 11 0 0 (9 ∷ 9 ∷ 9 ∷ 9 ∷ []))
    -- the fixed space: n = 0: none; identity, n = 2: all; H: Y; CX 0 1: IX ZI; SWAP: XX ZZ, and the words behind them unchanged
    ∷ (fixed 0 [] 0 gives replies 0 0 0 [])
    ∷ (fixed 2 (1 ∷ 2 ∷ 4 ∷ 8 ∷ []) 4 gives replies 0 4 0 (1 ∷ 2 ∷ 4 ∷ 8 ∷ []))
    ∷ (fixed 1 (played 1 (0 ∷ 0 ∷ 0 ∷ [])) 2 gives replies 0 1 0 (3 ∷ 9 ∷ []))
    ∷ (fixed 2 (played 2 (3 ∷ 0 ∷ 1 ∷ [])) 4 gives replies 0 2 0 (2 ∷ 4 ∷ 9 ∷ 9 ∷ []))
    ∷ (fixed 2 (played 2 (5 ∷ 0 ∷ 1 ∷ [])) 5 gives replies 0 2 0 (3 ∷ 12 ∷ 9 ∷ 9 ∷ 9 ∷ []))
    -- rows 1 8 4 2, n = 2, where the source has another basis of the same space
    ∷ (fixed 2 (1 ∷ 8 ∷ 4 ∷ 2 ∷ []) 4 gives replies 0 3 0 (1 ∷ 10 ∷ 4 ∷ 9 ∷ []))
    -- X to Z and Z to Y, n = 1: none but zero
    ∷ (fixed 1 (2 ∷ 3 ∷ []) 2 gives replies 0 0 0 (9 ∷ 9 ∷ []))
    -- SWAP with 3 words: 5, though the basis has 2; both rows Z: 4; n = 33: 1
    ∷ (fixed 2 (played 2 (5 ∷ 0 ∷ 1 ∷ [])) 3 gives replies 5 0 0 (9 ∷ 9 ∷ 9 ∷ []))
    ∷ (fixed 1 (2 ∷ 2 ∷ []) 2 gives replies 4 0 0 (9 ∷ 9 ∷ []))
    ∷ (fixed 33 [] 3 gives replies 1 0 0 (9 ∷ 9 ∷ 9 ∷ []))
    -- the shorter list: n = 0, both empty: the first
    ∷ (shorter 0 [] [] [] gives picks 0 1 [])
    -- SWAP by ZZ YY XX and by XX YY ZZ: the first at equal length
    ∷ (shorter 2 (played 2 (5 ∷ 0 ∷ 1 ∷ [])) (12 ∷ 15 ∷ 3 ∷ []) (3 ∷ 15 ∷ 12 ∷ []) gives picks 0 1 (12 ∷ 15 ∷ 3 ∷ []))
    -- a zero vector counts; and a shorter list that does not match is passed over
    ∷ (shorter 2 (played 2 (5 ∷ 0 ∷ 1 ∷ [])) (12 ∷ 0 ∷ 15 ∷ 3 ∷ []) (3 ∷ 15 ∷ 12 ∷ []) gives picks 0 2 (3 ∷ 15 ∷ 12 ∷ []))
    ∷ (shorter 2 (played 2 (5 ∷ 0 ∷ 1 ∷ [])) (12 ∷ 0 ∷ 15 ∷ 3 ∷ []) (3 ∷ 0 ∷ 12 ∷ []) gives picks 0 1 (12 ∷ 0 ∷ 15 ∷ 3 ∷ []))
    -- ZZ with a bit from 2n up is not ZZ, and a turn of such a bit alone, which would change nothing, is no turn
    ∷ (shorter 2 (played 2 (5 ∷ 0 ∷ 1 ∷ [])) (28 ∷ 15 ∷ 3 ∷ []) (12 ∷ 0 ∷ 15 ∷ 3 ∷ []) gives picks 0 2 (12 ∷ 0 ∷ 15 ∷ 3 ∷ []))
    ∷ (shorter 2 (1 ∷ 2 ∷ 4 ∷ 8 ∷ []) (16 ∷ []) (0 ∷ 0 ∷ []) gives picks 0 2 (0 ∷ 0 ∷ []))
    -- the identity by the empty list
    ∷ (shorter 2 (1 ∷ 2 ∷ 4 ∷ 8 ∷ []) (0 ∷ []) [] gives picks 0 2 [])
    -- neither: 14; then both rows Z: 4; a row with a bit from 2n up: 3; a row too few: 2; n = 33: 1
    ∷ (shorter 2 (played 2 (5 ∷ 0 ∷ 1 ∷ [])) (12 ∷ 15 ∷ []) [] gives picks 14 0 [])
    ∷ (shorter 1 (2 ∷ 2 ∷ []) (3 ∷ []) [] gives picks 4 0 [])
    ∷ (shorter 1 (1 ∷ 4 ∷ []) (3 ∷ []) [] gives picks 3 0 [])
    ∷ (shorter 1 (1 ∷ []) (3 ∷ []) [] gives picks 2 0 [])
    ∷ (shorter 33 [] (3 ∷ []) [] gives picks 1 0 [])
    -- the commutation chart
    ∷ (charted I gives pairs (0 ∷ 0 ∷ 0 ∷ 0 ∷ []))
    ∷ (charted X gives pairs (0 ∷ 0 ∷ 1 ∷ 1 ∷ []))
    ∷ (charted Y gives pairs (0 ∷ 1 ∷ 0 ∷ 1 ∷ []))
    ∷ (charted Z gives pairs (0 ∷ 1 ∷ 1 ∷ 0 ∷ []))
    ∷ []

-- those of a lent memory
unfoldable pub memories : List Example
memories =
    -- rows 1 3 12 11, n = 2: three spaces fail, the last of them the whole one; with a look less it is spent (6), and that one was still open
    (remembering 2 (1 ∷ 3 ∷ 12 ∷ 11 ∷ []) 7 200 5 gives recalls 0 4 7 (2 ∷ 8 ∷ 9 ∷ 1 ∷ 9 ∷ []) (entry 2 (1 ∷ 4 ∷ []) ++ (entry 2 (1 ∷ 6 ∷ []) ++ (entry 3 (1 ∷ 2 ∷ 4 ∷ []) ++ replicate 5 9))))
    ∷ (remembering 2 (1 ∷ 3 ∷ 12 ∷ 11 ∷ []) 6 200 5 gives recalls 6 0 6 (9 ∷ 9 ∷ 9 ∷ 9 ∷ 9 ∷ []) (entry 2 (1 ∷ 4 ∷ []) ++ (entry 2 (1 ∷ 6 ∷ []) ++ replicate 70 9)))
    -- CX 0 1, whose core is alternating: all of it is entered
    ∷ (remembering 2 (played 2 (3 ∷ 0 ∷ 1 ∷ [])) 0 65 5 gives recalls 0 3 0 (4 ∷ 6 ∷ 2 ∷ 9 ∷ 9 ∷ []) (entry 2 (1 ∷ 2 ∷ [])))
    -- a word too few for an entry; and an output word too few: 5
    ∷ (remembering 2 (played 2 (3 ∷ 0 ∷ 1 ∷ [])) 0 64 5 gives recalls 0 3 0 (4 ∷ 6 ∷ 2 ∷ 9 ∷ 9 ∷ []) (replicate 64 9))
    ∷ (remembering 2 (played 2 (3 ∷ 0 ∷ 1 ∷ [])) 0 65 4 gives recalls 5 0 0 (9 ∷ 9 ∷ 9 ∷ 9 ∷ []) (replicate 65 9))
    ∷ []

-- a sheet of one gate: its line, and what stands behind it
abbrev pub one_gate : ℕ → ℕ → ℕ → List ℕ → List ℕ
one_gate qubits count offset behind = 1 ∷ qubits ∷ count ∷ offset ∷ 0 ∷ behind

-- those of gate sheets, loaded over our six gates
unfoldable pub sheets : List Example
sheets =
    -- a sheet that passes is in force; our own is one
    (load (one_gate 1 1 5 (5 ∷ [])) six_gates_lem gives puts 0 (one_gate 1 1 5 (5 ∷ [])))
    ∷ (load six_gates_lem (one_gate 1 1 5 (5 ∷ [])) gives puts 0 six_gates_lem)
    -- 15: an empty sheet; no gates; 65 gates; a line that is cut short
    ∷ (load [] six_gates_lem gives puts 15 six_gates_lem)
    ∷ (load (0 ∷ 0 ∷ []) six_gates_lem gives puts 15 six_gates_lem)
    ∷ (load (65 ∷ replicate 300 1) six_gates_lem gives puts 15 six_gates_lem)
    ∷ (load (1 ∷ 1 ∷ 0 ∷ 0 ∷ []) six_gates_lem gives puts 15 six_gates_lem)
    -- no qubits, three qubits; seven turns
    ∷ (load (one_gate 0 1 5 (5 ∷ [])) six_gates_lem gives puts 15 six_gates_lem)
    ∷ (load (one_gate 3 1 5 (5 ∷ [])) six_gates_lem gives puts 15 six_gates_lem)
    ∷ (load (one_gate 1 7 5 (replicate 9 1)) six_gates_lem gives puts 15 six_gates_lem)
    -- turns that end where the sheet ends, and one further; no turns at its end, and past it
    ∷ (load (one_gate 2 2 5 (3 ∷ 15 ∷ [])) six_gates_lem gives puts 0 (one_gate 2 2 5 (3 ∷ 15 ∷ [])))
    ∷ (load (one_gate 2 2 6 (3 ∷ 15 ∷ [])) six_gates_lem gives puts 15 six_gates_lem)
    ∷ (load (one_gate 2 0 5 []) six_gates_lem gives puts 0 (one_gate 2 0 5 []))
    ∷ (load (one_gate 2 0 6 []) six_gates_lem gives puts 15 six_gates_lem)
    -- 16: a turn that is zero; above 15; on the second qubit of a gate of one, by its x and by its z
    ∷ (load (one_gate 2 1 5 (0 ∷ [])) six_gates_lem gives puts 16 six_gates_lem)
    ∷ (load (one_gate 2 1 5 (16 ∷ [])) six_gates_lem gives puts 16 six_gates_lem)
    ∷ (load (one_gate 1 1 5 (2 ∷ [])) six_gates_lem gives puts 16 six_gates_lem)
    ∷ (load (one_gate 1 1 5 (8 ∷ [])) six_gates_lem gives puts 16 six_gates_lem)
    -- the whole sheet passes 15 first: gate 0 has a zero turn, gate 1 three qubits
    ∷ (load (2 ∷ 1 ∷ 1 ∷ 9 ∷ 0 ∷ 3 ∷ 0 ∷ 9 ∷ 0 ∷ 0 ∷ []) six_gates_lem gives puts 15 six_gates_lem)
    -- a turn that is the line's own qubit count: Xb
    ∷ (gates 2 (one_gate 2 1 1 []) (0 ∷ 0 ∷ 1 ∷ []) 4 gives replies 0 4 0 (1 ∷ 2 ∷ 4 ∷ 10 ∷ []))
    -- iSWAP 0 1: XX, YY
    ∷ (gates 2 (one_gate 2 2 5 (3 ∷ 15 ∷ [])) (0 ∷ 0 ∷ 1 ∷ []) 4 gives replies 0 4 0 (14 ∷ 13 ∷ 8 ∷ 4 ∷ []))
    -- b is not read for a gate of one qubit
    ∷ (gates 1 (one_gate 1 1 5 (5 ∷ [])) (0 ∷ 0 ∷ 200 ∷ []) 2 gives replies 0 2 0 (2 ∷ 1 ∷ []))
    -- a gate of no turns changes nothing, but its questions are asked: 10, 11; and gate 1 is not there: 9
    ∷ (gates 2 (one_gate 2 0 5 []) (0 ∷ 0 ∷ 1 ∷ []) 4 gives replies 0 4 0 (1 ∷ 2 ∷ 4 ∷ 8 ∷ []))
    ∷ (gates 2 (one_gate 2 0 5 []) (0 ∷ 0 ∷ 2 ∷ []) 4 gives replies 10 0 0 (9 ∷ 9 ∷ 9 ∷ 9 ∷ []))
    ∷ (gates 2 (one_gate 2 0 5 []) (0 ∷ 1 ∷ 1 ∷ []) 4 gives replies 11 0 0 (9 ∷ 9 ∷ 9 ∷ 9 ∷ []))
    ∷ (gates 2 (one_gate 2 0 5 []) (1 ∷ 0 ∷ 1 ∷ []) 4 gives replies 9 0 0 (9 ∷ 9 ∷ 9 ∷ 9 ∷ []))
    -- the order of the questions: 1, 2, 15, 16, then the gates
    ∷ (gates 33 [] (1 ∷ 0 ∷ 1 ∷ []) 3 gives replies 1 0 0 (9 ∷ 9 ∷ 9 ∷ []))
    ∷ (gates 2 [] (1 ∷ 0 ∷ 1 ∷ []) 3 gives replies 2 0 0 (9 ∷ 9 ∷ 9 ∷ []))
    ∷ (gates 2 [] (1 ∷ 0 ∷ 1 ∷ []) 4 gives replies 15 0 0 (9 ∷ 9 ∷ 9 ∷ 9 ∷ []))
    ∷ (gates 2 (one_gate 1 1 5 (2 ∷ [])) [] 4 gives replies 16 0 0 (9 ∷ 9 ∷ 9 ∷ 9 ∷ []))
    ∷ []

-- self-inverse layers, with a list that the call may choose
unfoldable pub echoes : List Example
echoes =
    -- n = 0, and the identity: no turns
    (is_self_inverse 0 [] [] 1 gives replies 0 0 0 (9 ∷ []))
    ∷ (is_self_inverse 1 (1 ∷ 2 ∷ []) [] 3 gives replies 0 0 0 (9 ∷ 9 ∷ 9 ∷ []))
    -- H: Y; SWAP: XX YY ZZ, and the word behind them unchanged
    ∷ (is_self_inverse 1 (played 1 (0 ∷ 0 ∷ 0 ∷ [])) (3 ∷ []) 3 gives replies 0 1 0 (3 ∷ 9 ∷ 9 ∷ []))
    ∷ (is_self_inverse 2 (played 2 (5 ∷ 0 ∷ 1 ∷ [])) (3 ∷ 15 ∷ 12 ∷ []) 5 gives replies 0 3 0 (3 ∷ 15 ∷ 12 ∷ 9 ∷ 9 ∷ []))
    -- X to Z and Z to Y, which has order 3: 17, and with 2 words 5
    ∷ (is_self_inverse 1 (2 ∷ 3 ∷ []) [] 3 gives replies 17 0 0 (9 ∷ 9 ∷ 9 ∷ []))
    ∷ (is_self_inverse 1 (2 ∷ 3 ∷ []) [] 2 gives replies 5 0 0 (9 ∷ 9 ∷ []))
    -- both rows Z: 4; n = 33: 1
    ∷ (is_self_inverse 1 (2 ∷ 2 ∷ []) [] 3 gives replies 4 0 0 (9 ∷ 9 ∷ 9 ∷ []))
    ∷ (is_self_inverse 33 [] [] 3 gives replies 1 0 0 (9 ∷ 9 ∷ 9 ∷ []))
    ∷ []
