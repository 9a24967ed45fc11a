-- What proofs above need of a row that is not there.
-- Assumes nothing.
use Rattle.binar.specs.declared.Row.{Row}

-- what a read past the end of a list of rows gives
abbrev pub blank : Row
blank = record { word = 0 }
