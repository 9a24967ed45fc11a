-- What the answers of the shared questions and of a call that lists without a search say; what a call leaves in a lent number.
-- Assumes nothing.
use Rattle.std.specs.Prelude.{ℕ, zero, suc, Result, Ok, Err}
use Rattle.questions.specs.declared.Figures.{Figures}
use Rattle.questions.specs.declared.ActionError.{ActionError}
use Rattle.questions.specs.declared.ActionError.TheVariants.{TooManyQubits, WrongRowCount, RowTooWide, NotSymplectic}
use Rattle.questions.specs.declared.ListingError.{ListingError}
use Rattle.questions.specs.declared.ListingError.TheVariants.{Action, OutputTooShort}

-- document 01's numbers of the questions. These and what follows are open to users
abbrev pub action_number : ActionError → ℕ
action_number TooManyQubits = 1
action_number WrongRowCount = 2
action_number RowTooWide = 3
action_number NotSymplectic = 4

abbrev pub listing_number : ListingError → ℕ
listing_number (Action e) = action_number e
listing_number OutputTooShort = 5

-- 0 where all questions were passed, else the number of the one that was answered no
abbrev pub asked : {E : Type 0} → (E → ℕ) → Result (Unit {0}) E → ℕ
asked number (Ok _) = 0
asked number (Err e) = number e

abbrev pub number_of : Result (Unit {0}) ActionError → ℕ
number_of r = asked action_number r

-- the figures of an answer without a search: how many vectors or rows were listed, or the number of the question
abbrev pub answer_figures : {E : Type 0} → (E → ℕ) → Result ℕ E → Figures
answer_figures number (Ok count) = record { number = 0; count = count; looks = 0 }
answer_figures number (Err e) = record { number = number e; count = 0; looks = 0 }

abbrev pub figures_of_lem : Result ℕ ListingError → Figures
figures_of_lem r = answer_figures listing_number r

-- a lent number after the call: the value of an answer; a refusal leaves what was there
abbrev pub lent_number : ℕ → ℕ → ℕ → ℕ
lent_number zero value before = value
lent_number (suc number) value before = before
