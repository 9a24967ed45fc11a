-- `from_rows` writes the rows over zero rows, one by one, by `rows_more`.
use mathlib.Core.Path.{◌≡◌}
use mathlib.Core.List.{◌++◌}
use Prim.Native.Nat.{◌-◌, ◌≤◌}
use lib.ListN.{take, drop, replicate}
use Rattle.blocks.specs.Words.{rows_in_lem}
use Rattle.symplectic.specs.Sizes.{most_rows}
use Rattle.actions.specs.Actions.{vals}
use Rattle.actions.proofs.from_rows.Given as goal

abbrev pub invariant-loop-i : goal.invariant-loop-i
invariant-loop-i l = (l.i ≤ l.i-end) × (vals l.rows ≡ take l.i (rows_in_lem l.w) ++ drop l.i (replicate most_rows 0))

abbrev pub decreases-loop-i : goal.decreases-loop-i
decreases-loop-i l = l.i-end - l.i
