-- What the answer of a gate sequence says: its number, or how many rows stand in the lent words. Open to users.
-- Assumes nothing.
use Rattle.std.specs.Prelude.{ℕ, Result}
use Rattle.questions.specs.declared.Figures.{Figures}
use Rattle.questions.specs.Answers.{answer_figures}
use Rattle.sheets.specs.Answers.{sheet_number}
use Rattle.gates.specs.declared.GateError.{GateError}
use Rattle.gates.specs.declared.GateError.TheVariants.{UnknownGate, QubitTooHigh, EqualQubits}
use Rattle.gates.specs.declared.GateActionError.{GateActionError}
use Rattle.gates.specs.declared.GateActionError.TheVariants.{TooManyQubits, WrongRowCount, Sheet, Gate}

abbrev pub gate_number : GateError → ℕ
gate_number UnknownGate = 9
gate_number QubitTooHigh = 10
gate_number EqualQubits = 11

abbrev pub gate_action_number : GateActionError → ℕ
gate_action_number TooManyQubits = 1
gate_action_number WrongRowCount = 2
gate_action_number (Sheet e) = sheet_number e
gate_action_number (Gate e) = gate_number e

abbrev pub figures_of_lem : Result ℕ GateActionError → Figures
figures_of_lem r = answer_figures gate_action_number r
