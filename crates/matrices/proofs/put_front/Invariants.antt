-- `put_front` puts row after row, by `over_next` and `over_end`.
use mathlib.Core.Path.{◌≡◌}
use mathlib.Core.List.{◌++◌}
use Prim.Native.Nat.{◌-◌, ◌≤◌}
use lib.ListN.{length, take, drop}
use Rattle.blocks.specs.Words.{rows_in_lem}
use Rattle.matrices.proofs.put_front.Given as goal

abbrev pub invariant-loop-i : goal.invariant-loop-i
invariant-loop-i l =
    (l.i ≤ l.m) × (length l.out ≡ length l.initial.out) × (rows_in_lem l.out ≡ take l.i (take l.k (rows_in_lem l.w)) ++ drop l.i (rows_in_lem l.initial.out))

abbrev pub decreases-loop-i : goal.decreases-loop-i
decreases-loop-i l = l.m - l.i
