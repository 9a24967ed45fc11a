-- `dots` sets column after column, by `dots_next`.
use mathlib.Core.Path.{◌≡◌}
use lib.ListN.{take}
use Rattle.binar.specs.Rows.{val}
use Rattle.blocks.specs.Matrices.{dots}
use Rattle.blocks.specs.Words.{rows_in_lem}
use Rattle.residue.proofs.dots.Given as goal

abbrev pub invariant-loop-i : goal.invariant-loop-i
invariant-loop-i l = val l.s ≡ dots (take l.i (rows_in_lem l.w)) (val l.v)
