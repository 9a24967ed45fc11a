-- What a gate sequence replies: each refusal in its turn, and the whole product of its turns where every question is passed.
-- Assumes nothing.
use mathlib.Core.Path.{◌≡◌, refl, sym, ap, ◌∙◌}
use mathlib.Core.List.{List}
use Prim.Native.Nat.{ℕ, suc, ◌+◌, ◌≤◌, ◌<◌}
use lib.ListN.{length}
use Rattle.blocks.specs.Words.{rows_of_words, laid}
use Rattle.blocks.proofs.Values.{rows_count}
use Rattle.symplectic.specs.Sizes.{max_qubits}
use Rattle.questions.specs.declared.Figures.{Figures}
use Rattle.symplectic.specs.Turns.{product}
use Rattle.questions.specs.Replies.{Reply, refused, nothing_listed_lem, listed, and_then, size_question, count_question, Rebuilds}
use Rattle.symplectic.proofs.Products.{product_length}
use Rattle.questions.proofs.Questions.{size_refused, size_passed, size_known, count_refused, count_passed, count_known, then_passed, then_refused, then_known}
use Rattle.questions.proofs.Answered.{Meets, Holds, meets_refused, meets_answer, rebuilds}
use Rattle.sheets.specs.Sheets.{Gate, gates_of, sheet_questions_lem}
use Rattle.sheets.proofs.Checks.{sheet_known}
use Rattle.gates.specs.declared.GateActionError.TheVariants.{TooManyQubits, WrongRowCount, Sheet, Gate as Asked}
use Rattle.gates.specs.declared.GateError.{GateError}
use Rattle.gates.specs.declared.GateError.TheVariants.{UnknownGate, QubitTooHigh, EqualQubits}
use Rattle.sheets.specs.declared.SheetError.{SheetError}
use Rattle.sheets.specs.declared.SheetError.TheVariants.{Malformed, BadTurn}
use Rattle.sheets.specs.Answers.{sheet_number}
use Rattle.std.specs.Prelude.{Ok, Err}
use Rattle.gates.specs.Answers.{gate_number, figures_of_lem}
use Rattle.gates.specs.Sequences.{sequence_questions, sequence_turns, sequence_reply, gates_reply}
use Rattle.gates.proofs.Narrow.{sequence_lt}

-- a question that is answered no has a number other than 0
sheet_refusal : (e : SheetError) → (k : ℕ) × (sheet_number e ≡ suc k)
sheet_refusal Malformed = (14, refl)
sheet_refusal BadTurn = (15, refl)

pub gate_refusal : (e : GateError) → (k : ℕ) × (gate_number e ≡ suc k)
gate_refusal UnknownGate = (8, refl)
gate_refusal QubitTooHigh = (9, refl)
gate_refusal EqualQubits = (10, refl)

module _ (n : ℕ) (sheet bytes out : List ℕ) where
  abbrev gates : List Gate
  gates = gates_of sheet

  -- what is asked behind question 2, and all that is asked
  abbrev later : ℕ
  later = and_then (sheet_questions_lem sheet) (sequence_questions n gates bytes)

  abbrev asked : ℕ
  asked = size_question n (count_question n (rows_of_words n out) later)

  abbrev pub Promised : List ℕ → Figures → Type 0
  Promised = Rebuilds n (sequence_turns n gates bytes)

  abbrev answer : Reply
  answer = listed n (product n (sequence_turns n gates bytes)) 0 out

  pub gates_rebuild : Holds Promised (gates_reply n sheet bytes out)
  unfolding gates_reply sequence_reply
  gates_rebuild =
      rebuilds n (sequence_turns n gates bytes) asked out
      (λ e. let size = size_known n _ e in let count = count_known n _ (rows_of_words n out) size.1 in let all = then_known (sheet_questions_lem sheet) (sequence_questions n gates bytes) count.1 in (size.0, (sequence_lt n gates (sheet_known sheet all.0).1 bytes all.1, count.0)))

  gates_refused : (k : ℕ) (t : Figures) → asked ≡ suc k → t ≡ (refused (suc k) 0 out).figures
      → Meets Promised (gates_reply n sheet bytes out) out t
  unfolding gates_reply sequence_reply
  gates_refused k t = meets_refused Promised asked out answer gates_rebuild t k

  pub gates_1 : max_qubits < n → Meets Promised (gates_reply n sheet bytes out) out (figures_of_lem (Err TooManyQubits))
  gates_1 h = gates_refused 0 (figures_of_lem (Err TooManyQubits)) (size_refused n _ h) refl

  module _ (size : n ≤ max_qubits) where
    pub gates_2 : (length out ≡ n + n → ⊥) → Meets Promised (gates_reply n sheet bytes out) out (figures_of_lem (Err WrongRowCount))
    gates_2 h =
        gates_refused 1 (figures_of_lem (Err WrongRowCount)) (size_passed n _ size ∙ count_refused n _ (rows_of_words n out) (λ e. h (sym (rows_count n out) ∙ e))) refl

    module _ (lent : length out ≡ n + n) where
      passed : asked ≡ later
      passed = size_passed n _ size ∙ count_passed n _ (rows_of_words n out) (rows_count n out ∙ lent)

      -- the sheet is refused
      pub sheet_refused : (e : SheetError) → sheet_number e ≡ sheet_questions_lem sheet → Meets Promised (gates_reply n sheet bytes out) out (figures_of_lem (Err (Sheet e)))
      sheet_refused e a =
          let k = sheet_refusal e in
          gates_refused k.0 (figures_of_lem (Err (Sheet e))) (passed ∙ then_refused (sheet_questions_lem sheet) (sequence_questions n gates bytes) k.0 (sym a ∙ k.1)) (ap nothing_listed_lem k.1)

      module _ (sound : sheet_questions_lem sheet ≡ 0) where
        behind : asked ≡ sequence_questions n gates bytes
        behind = passed ∙ then_passed (sheet_questions_lem sheet) (sequence_questions n gates bytes) sound

        -- a gate is refused
        pub gate_refused : (e : GateError) → gate_number e ≡ sequence_questions n gates bytes → Meets Promised (gates_reply n sheet bytes out) out (figures_of_lem (Err (Asked e)))
        gate_refused e a = let k = gate_refusal e in gates_refused k.0 (figures_of_lem (Err (Asked e))) (behind ∙ sym a ∙ k.1) (ap nothing_listed_lem k.1)

        -- an answer lays the product into the words
        pub gates_listed : (left : List ℕ) → sequence_questions n gates bytes ≡ 0 → left ≡ laid n (product n (sequence_turns n gates bytes)) out
            → Meets Promised (gates_reply n sheet bytes out) left (figures_of_lem (Ok (n + n)))
        unfolding gates_reply sequence_reply
        gates_listed left e l =
            meets_answer Promised asked out answer gates_rebuild (figures_of_lem (Ok (n + n))) (behind ∙ e) left
            (ap (λ (k : ℕ). figures_of_lem (Ok k)) (sym (product_length n (sequence_turns n gates bytes)))) l
