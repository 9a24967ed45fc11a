-- What the code's entry, its kind and the answer of the file's questions say. All are plain readings, open to users.
-- Assumes nothing.
use Rattle.std.specs.Prelude.{ℕ, zero, suc, Result, Ok, Err}
use Rattle.questions.specs.Answers.{asked}
use Rattle.job.specs.Files.{Entry}
use Rattle.job.specs.declared.Item.{Item}
use Rattle.job.specs.declared.Kind.{Kind}
use Rattle.job.specs.declared.Kind.TheVariants.{Rows, Gates}
use Rattle.job.specs.declared.UnknownKind.{UnknownKind}
use Rattle.job.specs.declared.FileError.{FileError}
use Rattle.job.specs.declared.FileError.TheVariants.{BadLength, TooManyQubits, BadEntry}

abbrev pub entry_of : Item → Entry
entry_of e = record { kind = e.kind; zero_byte = e.zero_byte; count = e.count; offset = e.offset }

-- the kind that a byte names
abbrev pub kind_of : ℕ → Result Kind UnknownKind
kind_of zero = Ok Rows
kind_of (suc zero) = Ok Gates
kind_of (suc (suc more)) = Err (record {})

-- what an entry's part is read as: gates also where its byte names no kind
abbrev pub part_kind_lem : ℕ → Kind
part_kind_lem zero = Rows
part_kind_lem (suc more) = Gates

-- document 01's numbers of the questions
abbrev pub file_number : FileError → ℕ
file_number BadLength = 12
file_number TooManyQubits = 1
file_number BadEntry = 13

-- 0 where all were passed, else the number of the question that was answered no
abbrev pub number_of : Result (Unit {0}) FileError → ℕ
number_of r = asked file_number r
