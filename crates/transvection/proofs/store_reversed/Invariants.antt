-- `store_reversed` lays the turns from the last to the first, one by one, by `back_at`, `laid_next` and `laid_end`.
use mathlib.Core.Path.{◌≡◌}
use mathlib.Core.List.{◌++◌, reverse}
use Prim.Native.Nat.{◌-◌, ◌≤◌}
use lib.ListN.{length, take, drop}
use Rattle.blocks.specs.Words.{words_of_rows, rows_in_lem}
use Rattle.transvection.proofs.store_reversed.Given as goal

abbrev pub invariant-loop-k : goal.invariant-loop-k
invariant-loop-k l =
    (l.k ≤ l.count) × (length l.out ≡ length l.initial.out) × (l.out ≡ take l.k (words_of_rows l.n (reverse (take l.count (rows_in_lem l.kept)))) ++ drop l.k l.initial.out)

abbrev pub decreases-loop-k : goal.decreases-loop-k
decreases-loop-k l = l.count - l.k
