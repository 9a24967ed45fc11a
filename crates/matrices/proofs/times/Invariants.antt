-- `times` adds the rows of the ones of c, lowest first: what is added and what is left make the whole, by `times_next`.
use Prim.Native.Nat.{◌^◌, ◌<◌}
use mathlib.Core.Path.{◌≡◌}
use lib.ListN.{length}
use Rattle.binar.specs.Rows.{val, row_bound}
use Rattle.blocks.specs.Words.{rows_in_lem}
use Rattle.blocks.specs.Matrices.{times}
use Rattle.binar.specs.Bits.{◌⊕◌}
use Rattle.matrices.proofs.times.Given as goal

abbrev pub invariant-loop-bits : goal.invariant-loop-bits
invariant-loop-bits l =
    (val l.bits < row_bound) × (val l.bits < 2 ^ length (rows_in_lem l.w)) × (val l.s ⊕ times (val l.bits) (rows_in_lem l.w) ≡ times (val l.initial.bits) (rows_in_lem l.w))

abbrev pub decreases-loop-bits : goal.decreases-loop-bits
decreases-loop-bits l = val l.bits
