-- `put_core` puts the dots of row after row, by `over_next` and `over_end`.
use mathlib.Core.Path.{◌≡◌}
use mathlib.Core.List.{◌++◌}
use lib.ListN.{take, drop}
use Rattle.blocks.specs.Words.{rows_in_lem}
use Rattle.residue.specs.Residue.{times_transposed}
use Rattle.residue.proofs.put_core.Given as goal

abbrev pub invariant-loop-i : goal.invariant-loop-i
invariant-loop-i l =
    rows_in_lem l.out ≡ take l.i (times_transposed (take l.k (rows_in_lem l.rows)) (take l.k (rows_in_lem l.transform))) ++ drop l.i (rows_in_lem l.initial.out)
