-- A gate by its line on the sheet: its questions, its turns, and what is known of it where the sheet and the gate passed.
-- Assumes nothing.
use mathlib.Core.Path.{◌≡◌, refl, sym, ap, ◌∙◌, subst}
use mathlib.Core.Bool.{Bool, true, false}
use mathlib.Core.List.{List}
use Prim.Native.Nat.{ℕ, ◌+◌, ◌≤◌, ◌<◌}
use native.Mathlib.Omega.{arith}
use lib.Dec.{ltb, eqb}
use lib.ListN.{length}
use borrow.Author.Tests.{ltb-true}
use Rattle.numbers.specs.Numbers.{part}
use Rattle.blocks.specs.Matrices.{All}
use Rattle.sheets.specs.declared.SheetLine.{SheetLine}
use Rattle.sheets.specs.Sheets.{Gate, gate_count_lem, line, gates_of, sheet_questions_lem}
use Rattle.sheets.specs.inner.Seconds.{Second}
use Rattle.sheets.proofs.Lines.{gates_length, gate_in, gate_qubits, gate_turns}
use Rattle.sheets.proofs.Checks.{line_known, form_known, sheet_known}
use Rattle.gates.specs.Sequences.{no_gate, gate, reads_two, gate_questions}
use Rattle.gates.proofs.Asked.{unknown_gate, gate_known}
use Rattle.gates.proofs.Narrow.{turns_second}

module _ (sheet : List ℕ) (g : ℕ) where
  abbrev there : Bool
  there = ltb g (length (gates_of sheet))

  abbrev two : Bool
  two = reads_two (gate (gates_of sheet) g)

  module _ (known : g < gate_count_lem sheet) where
    two_of_line : eqb (line sheet g).qubits 2 ≡ reads_two (gate (gates_of sheet) g)
    unfolding reads_two gate
    two_of_line =
        ap (λ (q : ℕ). eqb q 2) (sym (ap (λ (x : Gate). x.qubits) (gate_in sheet no_gate g known) ∙ gate_qubits sheet (line sheet g)))

    turns_of_line : (gate (gates_of sheet) g).turns ≡ part sheet (line sheet g).offset (line sheet g).count
    unfolding gate
    turns_of_line = ap (λ (x : Gate). x.turns) (gate_in sheet no_gate g known) ∙ gate_turns sheet (line sheet g)

  module _ (n a b : ℕ) where
    -- whether it reads two qubits does not matter past the last gate
    pub line_asked : gate_questions n (ltb g (gate_count_lem sheet)) (eqb (line sheet g).qubits 2) a b ≡ gate_questions n (ltb g (length (gates_of sheet))) (reads_two (gate (gates_of sheet) g)) a b
    line_asked = go (ltb g (gate_count_lem sheet)) refl ∙ ap (λ (k : ℕ). gate_questions n (ltb g k) two a b) (sym (gates_length sheet))
      where
        go : (t : Bool) → ltb g (gate_count_lem sheet) ≡ t → gate_questions n (ltb g (gate_count_lem sheet)) (eqb (line sheet g).qubits 2) a b ≡ gate_questions n (ltb g (gate_count_lem sheet)) two a b
        go true e = ap (λ (x : Bool). gate_questions n (ltb g (gate_count_lem sheet)) x a b) (two_of_line (ltb-true g (gate_count_lem sheet) e))
        go false e =
            ap (λ (t : Bool). gate_questions n t (eqb (line sheet g).qubits 2) a b) e ∙ unknown_gate n a b (eqb (line sheet g).qubits 2)
            ∙ sym (ap (λ (t : Bool). gate_questions n t two a b) e ∙ unknown_gate n a b two)

    module _ (l : SheetLine) (is : l ≡ line sheet g) (sound : sheet_questions_lem sheet ≡ 0) (passed : gate_questions n (ltb g (length (gates_of sheet))) (reads_two (gate (gates_of sheet) g)) a b ≡ 0) where
      on_sheet : g < gate_count_lem sheet
      on_sheet = omega (arith, ltb-true g (length (gates_of sheet)) (gate_known n a b there two passed).0, gates_length sheet)

      pub line_turns : part sheet l.offset l.count ≡ (gate (gates_of sheet) g).turns
      line_turns = ap (λ (x : SheetLine). part sheet x.offset x.count) is ∙ sym (turns_of_line on_sheet)

      pub line_passed : (a < n) × (l.offset + l.count ≤ length sheet) × All (Second (b < n)) (part sheet l.offset l.count)
      line_passed =
          let asked = gate_known n a b there two passed in
          let fit = sheet_known sheet sound in (
            asked.1,
            subst (λ (x : SheetLine). x.offset + x.count ≤ length sheet) (sym is) (line_known sheet (line sheet g) (form_known sheet fit.0 g on_sheet)),
            subst (All (Second (b < n))) (sym line_turns) (turns_second (b < n) (gates_of sheet) fit.1 g asked.2),
          )
