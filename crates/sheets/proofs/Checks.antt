-- What is known of a sheet that passed its questions.
-- Assumes nothing.
use mathlib.Core.Path.{◌≡◌, refl, sym, ap, ◌∙◌}
use mathlib.Core.Bool.{Bool, true, false, ◌&&◌, ◌||◌, not, and-eq-true_iff}
use mathlib.Core.List.{List, []}
use Prim.Native.Nat.{ℕ, ◌+◌, ◌*◌, ◌≤◌, ◌<◌}
use native.Mathlib.Omega.{arith}
use lib.Dec.{eqb, leb, ltb}
use lib.ListN.{length, get_or}
use borrow.Author.Tests.{leb-true}
use Rattle.binar.specs.Bits.{digit, bit}
use Rattle.blocks.specs.Matrices.{All}
use Rattle.blocks.proofs.All.{All-at, All-map, All-get_or}
use Rattle.std.specs.List.{list_all}
use Rattle.symplectic.proofs.Lists.{all_true}
use Rattle.questions.specs.Replies.{ask}
use Rattle.questions.proofs.Questions.{ask_passed}
use Rattle.sheets.specs.declared.SheetLine.{SheetLine}
use Rattle.sheets.specs.Sheets.{Gate, most_gates, most_turns, line_size, gate_count_lem, line, lines, gates_of, line_fits_lem, well_formed_lem, turn_fits_lem, gate_fits_lem, sheet_questions_lem}
use Rattle.sheets.specs.inner.Seconds.{Second}
use Rattle.sheets.proofs.Lines.{lines_length, line_in}

-- ---- a line

module _ (sheet : List ℕ) (l : SheetLine) where
  -- the turns of one that fits stand within the sheet
  pub line_known : line_fits_lem sheet l ≡ true → l.offset + l.count ≤ length sheet
  unfolding line_fits_lem
  line_known e =
      let behind = ((and-eq-true_iff (ltb 0 l.qubits && leb l.qubits 2) (leb l.count most_turns && leb (l.offset + l.count) (length sheet))).0 e).1 in
      leb-true (l.offset + l.count) (length sheet) ((and-eq-true_iff (leb l.count most_turns) (leb (l.offset + l.count) (length sheet))).0 behind).1

-- ---- the form of a sheet

module _ (sheet : List ℕ) where
  pub form_known : well_formed_lem sheet ≡ true → (g : ℕ) → g < gate_count_lem sheet → line_fits_lem sheet (line sheet g) ≡ true
  unfolding well_formed_lem
  form_known e g h =
      let behind = ((and-eq-true_iff (ltb 0 (gate_count_lem sheet) && leb (gate_count_lem sheet) most_gates) (leb (1 + line_size * gate_count_lem sheet) (length sheet) && list_all (line_fits_lem sheet) (lines sheet))).0 e).1 in
      let each = all_true (line_fits_lem sheet) (lines sheet) ((and-eq-true_iff (leb (1 + line_size * gate_count_lem sheet) (length sheet)) (list_all (line_fits_lem sheet) (lines sheet))).0 behind).1 in
      ap (line_fits_lem sheet) (sym (line_in sheet (line sheet g) g h))
      ∙ All-at (λ l. line_fits_lem sheet l ≡ true) (lines sheet) each g (line sheet g) (omega (arith, lines_length sheet))

-- ---- a turn

-- only the turns of a gate of two qubits have one
turn_second : (P : Type 0) (qubits code : ℕ) → turn_fits_lem qubits code ≡ true → (eqb qubits 2 ≡ true → P) → Second P code
unfolding turn_fits_lem
turn_second P qubits code e h =
    go (eqb qubits 2) (bit 1 code) (bit 3 code) h ((and-eq-true_iff (ltb 0 code && leb code 15) (eqb qubits 2 || not (bit 1 code || bit 3 code))).0 e).1
  where
    never : false ≡ true → P
    never e = absurd (omega (arith, ap digit e))

    go : (two x z : Bool) → (two ≡ true → P) → two || not (x || z) ≡ true → (x ≡ true → P) × (z ≡ true → P)
    go true x z h e = (λ _. h refl, λ _. h refl)
    go false true z h e = (λ _. never e, λ _. never e)
    go false false true h e = (λ _. never e, λ _. never e)
    go false false false h e = (never, never)

-- a gate without turns fits
pub no_turns : (qubits : ℕ) → gate_fits_lem (record { qubits = qubits; turns = [] }) ≡ true
unfolding gate_fits_lem
no_turns qubits = refl

-- of gates that fit, gate g, or none past the end
pub gate_second : (P : Type 0) (gates : List Gate) (none : Gate) → gate_fits_lem none ≡ true → list_all gate_fits_lem gates ≡ true → (g : ℕ) → (eqb (get_or gates g none).qubits 2 ≡ true → P) → All (Second P) (get_or gates g none).turns
unfolding gate_fits_lem
gate_second P gates none n e g h =
    let gate = get_or gates g none in
    All-map (λ code t. turn_second P gate.qubits code t h) gate.turns
    (all_true (turn_fits_lem gate.qubits) gate.turns (All-get_or (λ (x : Gate). gate_fits_lem x ≡ true) gates (all_true gate_fits_lem gates e) none n g))

-- ---- the questions

module _ (sheet : List ℕ) where
  pub sheet_known : sheet_questions_lem sheet ≡ 0 → (well_formed_lem sheet ≡ true) × (list_all gate_fits_lem (gates_of sheet) ≡ true)
  unfolding sheet_questions_lem
  sheet_known e =
      let k = ask_passed (well_formed_lem sheet) 14 (ask (list_all gate_fits_lem (gates_of sheet)) 16 0) e in
      (k.0, (ask_passed (list_all gate_fits_lem (gates_of sheet)) 15 0 k.1).0)
