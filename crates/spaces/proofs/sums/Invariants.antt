-- `sums` puts the sum of the first rows behind them, by `summed_more`.
use mathlib.Core.Path.{◌≡◌}
use mathlib.Core.List.{map}
use Prim.Native.Nat.{◌-◌, ◌^◌, ◌≤◌}
use lib.ListN.{length, take}
use Rattle.binar.specs.Rows.{val}
use Rattle.blocks.specs.Matrices.{times}
use Rattle.blocks.specs.Words.{rows_in_lem}
use Rattle.spaces.specs.Levels.{below, over_from, sum_to}
use Rattle.spaces.proofs.sums.Given as goal

abbrev pub invariant-loop-i : goal.invariant-loop-i
invariant-loop-i l = (l.i ≤ l.d) × (length l.w ≡ length l.initial.w) × (rows_in_lem l.w ≡ over_from l.d (take l.i (map (sum_to (take l.d (rows_in_lem l.initial.w))) (below l.d))) (rows_in_lem l.initial.w)) × (val l.s ≡ times (2 ^ l.i - 1) (take l.d (rows_in_lem l.initial.w)))

abbrev pub decreases-loop-i : goal.decreases-loop-i
decreases-loop-i l = l.d - l.i
