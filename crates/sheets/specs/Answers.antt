-- What the answer of a sheet's questions says. Open to users.
-- Assumes nothing.
use Rattle.std.specs.Prelude.{ℕ, Result}
use Rattle.questions.specs.Answers.{asked}
use Rattle.sheets.specs.declared.SheetError.{SheetError}
use Rattle.sheets.specs.declared.SheetError.TheVariants.{Malformed, BadTurn}

abbrev pub sheet_number : SheetError → ℕ
sheet_number Malformed = 15
sheet_number BadTurn = 16

-- the number of the question that was answered no; 0 where both were passed
abbrev pub number_of : Result (Unit {0}) SheetError → ℕ
number_of r = asked sheet_number r
