-- `put_units` puts the unit rows over the rows, one by one, by `over_next` and `over_end`.
use mathlib.Core.Path.{◌≡◌}
use mathlib.Core.List.{◌++◌}
use Prim.Native.Nat.{min}
use lib.ListN.{take, drop}
use Rattle.binar.specs.Rows.{width}
use Rattle.blocks.specs.Matrices.{units}
use Rattle.blocks.specs.Words.{rows_in_lem}
use Rattle.blocks.proofs.put_units.Given as goal

abbrev pub invariant-loop-i : goal.invariant-loop-i
invariant-loop-i l =
    rows_in_lem l.w ≡ take l.i (units (min l.k width)) ++ drop l.i (rows_in_lem l.initial.w)
