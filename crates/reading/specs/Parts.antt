-- A part of an input: what reads took from its front.
-- Assumes nothing.
use Rattle.std.specs.Prelude.{ℕ, ◌≤◌, List, length, Option}
use Rattle.std.specs.Io.KnownBytes.{Consumes}

-- what an input has left lost at most so many bytes, from its front
abbrev pub TakesUpTo : Option (List ℕ) → Option (List ℕ) → ℕ → Type 0
TakesUpTo old new most = (bs : List ℕ) × Consumes old new bs × (length bs ≤ most)
