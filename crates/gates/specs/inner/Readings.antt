-- What the code's answer to the questions of a gate says. For private contracts only.
-- Assumes nothing.
use Rattle.std.specs.Prelude.{ℕ, Result}
use Rattle.questions.specs.Answers.{asked}
use Rattle.gates.specs.declared.GateError.{GateError}
use Rattle.gates.specs.Answers.{gate_number}

-- document 01's number of the question that a gate answers no; 0 where it passed
abbrev pub number_of : Result (Unit {0}) GateError → ℕ
number_of r = asked gate_number r
