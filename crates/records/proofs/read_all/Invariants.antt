-- Each record read is a part of the input, behind those before it.
use Rattle.std.proofs.Common.{◌*◌}
use Rattle.reading.specs.Parts.{TakesUpTo}
use Rattle.records.proofs.read_all.Given as goal

abbrev pub invariant-loop : goal.invariant-loop
invariant-loop g l = TakesUpTo (g.I.Read.remaining l.initial.input) (g.I.Read.remaining l.input) (l.counter * 4160)
