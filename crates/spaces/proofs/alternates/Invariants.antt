-- `alternates` tests pair by pair, by the laws of `Alternates`; a bit of a Gram row is a form.
use mathlib.Core.Path.{◌≡◌}
use mathlib.Core.Bool.{true}
use lib.ListN.{take}
use Rattle.blocks.specs.Words.{rows_in_lem}
use Rattle.triangular.specs.Spaces.{symmetric_with}
use Rattle.spaces.specs.Levels.{below, form_in}
use Rattle.spaces.proofs.alternates.Given as goal

abbrev pub invariant-loop-j : goal.invariant-loop-j
invariant-loop-j l = symmetric_with (form_in (rows_in_lem l.gram)) l.i (take l.j (below l.i)) ≡ true
