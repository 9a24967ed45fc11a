-- `pass` puts each row behind its level as `passed_at` says, made into another.
use mathlib.Core.Path.{◌≡◌}
use mathlib.Core.List.{map}
use Prim.Native.Nat.{ℕ, ◌+◌, ◌-◌, ◌≤◌}
use lib.ListN.{length, get_or, take}
use Rattle.binar.specs.Bits.{bit}
use Rattle.binar.specs.Rows.{val}
use Rattle.blocks.specs.Words.{rows_in_lem}
use Rattle.spaces.specs.Levels.{below, over_from, passed_at}
use Rattle.spaces.proofs.pass.Given as goal

abbrev pub invariant-loop-n : goal.invariant-loop-n
invariant-loop-n g l = (1 ≤ l.n) × (l.n - 1 ≤ l.d - 1) × (length l.w ≡ length l.initial.w)
    × (rows_in_lem l.w ≡ over_from (l.d + l.d) (take (l.n - 1) (map (λ i. g.f (passed_at (val l.fn.h) l.j (take l.d (rows_in_lem l.initial.w)) i)) (below (l.d - 1)))) (rows_in_lem l.initial.w))
    × (val l.x ≡ get_or (rows_in_lem l.initial.w) (l.n - 1) 0) × ((t : ℕ) → bit t (val l.r) ≡ bit (l.n - 1 + t) (val l.fn.h))
