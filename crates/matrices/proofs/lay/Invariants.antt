-- `lay` lays the rows one by one, by `laid_next` and `laid_end`.
use mathlib.Core.Path.{◌≡◌}
use mathlib.Core.List.{◌++◌}
use Prim.Native.Nat.{◌-◌, ◌≤◌}
use lib.ListN.{length, take, drop}
use Rattle.blocks.specs.Words.{words_of_rows, rows_in_lem}
use Rattle.matrices.proofs.lay.Given as goal

abbrev pub invariant-loop-i : goal.invariant-loop-i
invariant-loop-i l =
    (l.i ≤ l.k) × (length l.out ≡ length l.initial.out) × (l.out ≡ take l.i (words_of_rows l.n (rows_in_lem l.w)) ++ drop l.i l.initial.out)

abbrev pub decreases-loop-i : goal.decreases-loop-i
decreases-loop-i l = l.k - l.i
