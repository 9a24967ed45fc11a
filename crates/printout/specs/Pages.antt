-- A page of the printout: as many of its lines, from a line on, as have room whole in lent bytes.
-- Assumes nothing.
use Rattle.std.specs.Prelude.{Bool, true, false, ℕ, zero, suc, ◌-◌, ◌<◌, leb, length, drop, Option, Some, None, Result, Ok, Err}
use mathlib.Core.List.{List, [], ◌∷◌, ◌++◌, flatten}
use Rattle.job.specs.Files.{file_questions_lem}
use Rattle.printout.specs.Printout.{file_lines}
use Rattle.job.specs.Answers.{file_number}
use Rattle.job.specs.declared.FileError.{FileError}
use Rattle.printout.specs.declared.Page.{Page}

-- as many lines, from the first on, as have room whole
abbrev pub fitting_if : Bool → List ℕ → List (List ℕ) → List (List ℕ)
fitting_if true l rest = l ∷ rest
fitting_if false l rest = []

unfoldable pub fitting : ℕ → List (List ℕ) → List (List ℕ)
fitting room [] = []
fitting room (l ∷ ls) = fitting_if (leb (length l) room) l (fitting (room - length l) ls)

-- what a page answers. Plain data, open to users
pub data PageAnswer : Type 0 where
  -- how many lines stand in the lent bytes, and how many bytes they take
  page : ℕ → ℕ → PageAnswer
  -- the printout has no such line
  no_such_line : PageAnswer
  -- the number of the file's question that is answered no
  file_refused : ℕ → PageAnswer

pub record PageReply : Type 0 where
  pub answer : PageAnswer
  -- the lent bytes as the call leaves them
  pub bytes : List ℕ

-- lines stand from the start of the lent bytes; bytes past them are unchanged
abbrev pub paged : List (List ℕ) → List ℕ → PageReply
paged ls out = let text = flatten ls in record { answer = page (length ls) (length text); bytes = text ++ drop (length text) out }

-- of the lines that are left
abbrev pub page_of : List (List ℕ) → List ℕ → PageReply
page_of [] out = record { answer = no_such_line; bytes = out }
page_of (l ∷ ls) out = paged (fitting (length out) (l ∷ ls)) out

-- by the number of the file's questions
abbrev pub page_by : ℕ → List ℕ → ℕ → List ℕ → PageReply
page_by zero file from out = page_of (drop from (file_lines file)) out
page_by (suc number) file from out = record { answer = file_refused (suc number); bytes = out }

-- the lines of the printout from line `from` on, as many whole ones as the lent bytes have room for
unfoldable pub page_reply : List ℕ → ℕ → List ℕ → PageReply
page_reply file from out = page_by (file_questions_lem file) file from out

-- a page that is given where lines are left has at least one of them
abbrev pub Onward : PageAnswer → Type 0
Onward (page count bytes) = 0 < count
Onward no_such_line = Unit {0}
Onward (file_refused number) = Unit {0}

-- what the code's answer says. Open to users
abbrev pub answer_of : Result (Option Page) FileError → PageAnswer
answer_of (Ok (Some p)) = page p.count p.bytes
answer_of (Ok None) = no_such_line
answer_of (Err e) = file_refused (file_number e)
