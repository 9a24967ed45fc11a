-- `begin` puts the unit rows and the core, as far as these have columns, one by one.
use mathlib.Core.Path.{◌≡◌}
use mathlib.Core.List.{◌++◌}
use lib.ListN.{take, drop}
use Rattle.blocks.specs.Matrices.{units}
use Rattle.blocks.specs.Words.{rows_in_lem}
use Rattle.triangular.specs.Readings.{core_in}
use Rattle.spaces.specs.Levels.{gram_of}
use Rattle.search.proofs.levels.begin.Given as goal

abbrev pub invariant-loop-i : goal.invariant-loop-i
invariant-loop-i l =
    rows_in_lem l.gram ≡ take l.i (gram_of (core_in l.core) (units l.k)) ++ drop l.i (rows_in_lem l.initial.gram)
