-- `multiply` lays the rows of the product one by one, by `laid_next` and `laid_end`.
use mathlib.Core.Path.{◌≡◌}
use mathlib.Core.List.{◌++◌}
use Prim.Native.Nat.{◌-◌, ◌≤◌}
use lib.ListN.{length, take, drop}
use Rattle.blocks.specs.Matrices.{matmul}
use Rattle.blocks.specs.Words.{words_of_rows, rows_in_lem}
use Rattle.matrices.proofs.multiply.Given as goal

abbrev pub invariant-loop-i : goal.invariant-loop-i
invariant-loop-i l =
    (l.i ≤ l.k) × (length l.out ≡ length l.initial.out) × (l.out ≡ take l.i (words_of_rows l.n (matmul (rows_in_lem l.a) (rows_in_lem l.b))) ++ drop l.i l.initial.out)

abbrev pub decreases-loop-i : goal.decreases-loop-i
decreases-loop-i l = l.k - l.i
