-- `load` puts the rows over others one by one, by `over_next` and `over_end`.
use mathlib.Core.Path.{◌≡◌}
use mathlib.Core.List.{◌++◌}
use lib.ListN.{take, drop}
use Rattle.blocks.specs.Words.{rows_in_lem}
use Rattle.actions.specs.Actions.{matrix}
use Rattle.transvection.proofs.load.Given as goal

abbrev pub invariant-loop-i : goal.invariant-loop-i
invariant-loop-i l = rows_in_lem l.w ≡ take l.i (matrix l.fn.a) ++ drop l.i (rows_in_lem l.initial.w)
