-- `collected` puts the draw of each level, by `collect_draw` and `collect_next`.
use mathlib.Core.Path.{◌≡◌}
use mathlib.Core.List.{◌++◌}
use Prim.Native.Nat.{◌+◌, ◌-◌, ◌≤◌}
use lib.ListN.{length, take, drop}
use Rattle.blocks.specs.Words.{rows_in_lem}
use Rattle.search.specs.inner.Levels.{levels, found_in}
use Rattle.search.proofs.levels.collected.Given as goal

abbrev pub invariant-loop-i : goal.invariant-loop-i
invariant-loop-i l = (l.i ≤ l.n) × (length l.list ≡ length l.initial.list) × (l.at + levels (l.k - l.i) ≡ levels l.k) × (drop l.i (found_in l.k (rows_in_lem l.basis)) ≡ found_in (l.k - l.i) (drop l.at (rows_in_lem l.basis)))
    × (rows_in_lem l.list ≡ take l.i (found_in l.k (rows_in_lem l.basis)) ++ drop l.i (rows_in_lem l.initial.list))

abbrev pub decreases-loop-i : goal.decreases-loop-i
decreases-loop-i l = l.n - l.i
