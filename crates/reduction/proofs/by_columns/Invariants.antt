-- `by_columns` does column after column, by `columns_step`; where every row has its pivot the others change nothing, by `columns_full`.
use mathlib.Core.Path.{◌≡◌}
use mathlib.Core.List.{zip}
use Prim.Native.Nat.{ℕ, ◌-◌, ◌≤◌}
use lib.ListN.{length, take, drop}
use Rattle.binar.specs.Bits.{bit}
use Rattle.blocks.specs.Words.{rows_in_lem}
use Rattle.symplectic.specs.Picks.{add_both}
use Rattle.reduction.specs.Columns.{Echelon, unreduced, columns}
use Rattle.reduction.specs.inner.Sweeps.{halves}
use Rattle.reduction.proofs.by_columns.Given as goal

-- k columns from c on
abbrev pub steps : ℕ → ℕ → Echelon (ℕ × ℕ) → Echelon (ℕ × ℕ)
steps k c h = columns (0, 0) add_both (λ i a. bit i a.0) k c h

-- the columns before c are done, and the pivots before p written, no others
abbrev pub invariant-loop-c : goal.invariant-loop-c
invariant-loop-c l =
    (l.p ≤ length (rows_in_lem l.initial.a)) × (drop l.p l.pivots ≡ drop l.p l.initial.pivots)
    × (steps (l.m - l.c) l.c (halves l.p (take l.p l.pivots) (zip (rows_in_lem l.a) (rows_in_lem l.t))) ≡ steps l.m 0 (unreduced (zip (rows_in_lem l.initial.a) (rows_in_lem l.initial.t))))
