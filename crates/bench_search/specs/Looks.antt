-- The looks that a search took.
-- Assumes nothing.
use Rattle.std.specs.Prelude.{ℕ}
use Rattle.triangular.specs.Search.{Verdict, ended, spent, looks_of}

abbrev pub looks_at : Verdict → ℕ
looks_at (ended outcome) = looks_of outcome
looks_at (spent looks) = looks
