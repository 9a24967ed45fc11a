-- How many lines a page that is written counts.
-- Assumes nothing.
use Rattle.std.specs.Prelude.{◌≡◌, ℕ, Option, Some, None, Result, Ok, IfOk}
use Rattle.printout.specs.Pages.{PageAnswer, page, no_such_line, file_refused}

-- once it is written, those that stand on it; none where the file is refused, or there is no such line: then nothing is written, and nothing fails
abbrev pub Counted : {E : Type 0} → PageAnswer → Result (Option ℕ) E → Type 0
Counted (page count bytes) r = IfOk r (λ o. o ≡ Some count)
Counted no_such_line r = r ≡ Ok None
Counted (file_refused number) r = IfOk r (λ o. o ≡ None)
