-- `put_again` puts each member behind the members.
use mathlib.Core.Path.{◌≡◌}
use Prim.Native.Nat.{ℕ, ◌+◌, ◌-◌, ◌≤◌, ◌<◌}
use lib.ListN.{length, get_or, take}
use Rattle.blocks.specs.Words.{rows_in_lem}
use Rattle.search.proofs.remembers.put_again.Given as goal

abbrev pub invariant-loop-i : goal.invariant-loop-i
invariant-loop-i l = (l.i ≤ l.d) × (length l.basis ≡ length l.initial.basis) × (length (rows_in_lem l.basis) ≡ length (rows_in_lem l.initial.basis)) × (take l.d (rows_in_lem l.basis) ≡ take l.d (rows_in_lem l.initial.basis))
    × ((n : ℕ) → n < l.i → get_or (rows_in_lem l.basis) (l.d + n) 0 ≡ get_or (take l.d (rows_in_lem l.initial.basis)) n 0)

abbrev pub decreases-loop-i : goal.decreases-loop-i
decreases-loop-i l = l.d - l.i
