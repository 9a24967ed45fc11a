-- `clear` adds to row after row of both, by `cleared_next` and `cleared_end`.
use mathlib.Core.Path.{◌≡◌}
use mathlib.Core.List.{◌++◌, zip}
use lib.ListN.{take, drop}
use Rattle.binar.specs.Rows.{val}
use Rattle.blocks.specs.Words.{rows_in_lem}
use Rattle.reduction.specs.inner.Sweeps.{cleared}
use Rattle.reduction.proofs.clear.Given as goal

-- the rows before i are cleared
abbrev pub invariant-loop-i : goal.invariant-loop-i
invariant-loop-i l =
    zip (rows_in_lem l.a) (rows_in_lem l.t) ≡ take l.i (cleared l.c (val l.v, val l.w) (zip (rows_in_lem l.initial.a) (rows_in_lem l.initial.t))) ++ drop l.i (zip (rows_in_lem l.initial.a) (rows_in_lem l.initial.t))
