-- `diagonal` takes the ones row by row, by `diagonal_next`.
use Rattle.binar.specs.Rows.{val}
use Rattle.blocks.specs.Words.{rows_in_lem}
use Rattle.self_inverse.proofs.Diagonals.{OnFirst}
use Rattle.self_inverse.proofs.diagonal.Given as goal

abbrev pub invariant-loop-i : goal.invariant-loop-i
invariant-loop-i l = OnFirst (rows_in_lem l.rows) l.i (val l.d)
