-- `gate_action` refuses by the first two questions, then by those of the sheet; else it lends as many rows as the action has, by `part_rows`.
use mathlib.Core.Path.{◌≡◌, sym, ap, ◌∙◌}
use Prim.Native.Nat.{◌+◌}
use native.Mathlib.Omega.{arith}
use lib.ListN.{replicate}
use Rattle.symplectic.specs.Sizes.{most_rows}
use Rattle.symplectic.proofs.Work.{room_in_lem, part_words, part_rows}
use Rattle.sheets.specs.Answers.{number_of}
use Rattle.sheets.specs.declared.SheetError.{SheetError}
use Rattle.gates.specs.declared.GateActionError.TheVariants.{Sheet}
use Rattle.std.specs.Prelude.{Err}
use Rattle.std.proofs.lemmas.Result.{err_from_is_err_and}
use Rattle.questions.proofs.Answered.{Meets}
use Rattle.gates.specs.Sequences.{gates_reply}
use Rattle.gates.specs.Answers.{figures_of_lem}
use Rattle.gates.proofs.Replied.{Promised, gates_1, gates_2, sheet_refused}
use borrow.Author.Rules.{rules}
use Rattle.gates.proofs.gate_action.Goals as goal
use Rattle.gates.proofs.gate_action.Goals.{After-sheet_questions, Start}

pub returns-then-n-gt-MAX_QUBITS : goal.returns-then-n-gt-MAX_QUBITS
returns-then-n-gt-MAX_QUBITS c =
    let s = c.args in
    let told = gates_1 s.n s.sheet.now s.bytes.now s.out.now (search rules) in record {
      answered = told.0;
      left = told.1.0;
      replays = told.1.1;
    }

pub returns-then-out-m : goal.returns-then-out-m
returns-then-out-m c =
    let s = c.args in
    let told = gates_2 s.n s.sheet.now s.bytes.now s.out.now (search rules) c.if-out-m.true in record {
      answered = told.0;
      left = told.1.0;
      replays = told.1.1;
    }

-- a refusal of the sheet is one of the sequence, and leaves the words as they are
refuses : (c : goal.After-sheet_questions) (e : SheetError) → c.sheet_questions.result ≡ Err e → let s = c.args in
    Meets (Promised s.n s.sheet.now s.bytes.now s.out.now) (gates_reply s.n s.sheet.now s.bytes.now s.out.now) s.out.now (figures_of_lem (Err (Sheet e)))
refuses c e same =
    let s = c.args in
    sheet_refused s.n s.sheet.now s.bytes.now s.out.now (search rules) (omega arith) e (sym (ap number_of same) ∙ c.sheet_questions.ensures)

pub returns-in_err-sheet_questions-clause-answered : goal.returns-in_err-sheet_questions-clause-answered
returns-in_err-sheet_questions-clause-answered c =
    let p = err_from_is_err_and c.from_residual.result c.from_residual.ensures.1 in
    rw (p.1, p.2) (refuses (goal.at.returns-in_err-sheet_questions-clause-answered c).After-sheet_questions _ c.in_err-sheet_questions.was).0

pub returns-in_err-sheet_questions-clause-left : goal.returns-in_err-sheet_questions-clause-left
returns-in_err-sheet_questions-clause-left c =
    (refuses (goal.at.returns-in_err-sheet_questions-clause-left c).After-sheet_questions _ c.in_err-sheet_questions.was).1.0

pub slice_bounds-played-end : goal.slice_bounds-played-end
slice_bounds-played-end c =
    let n = c.args.n in
    part_words (n + n) c.start-to.result (replicate most_rows 0) c.start-to.ensures

pub played-requires : goal.played-requires
played-requires c =
    let n = c.args.n in (
      search rules,
      part_rows (n + n) c.start-to.result (replicate most_rows 0) c.start-to.ensures (room_in_lem most_rows (n + n) (omega arith)),
      omega arith,
      sym c.sheet_questions.ensures ∙ ap number_of c.in_ok-sheet_questions.was,
    )
