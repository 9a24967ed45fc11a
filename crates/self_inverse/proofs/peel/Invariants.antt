-- `peel` lists a row at each turn, by `peel_turn`; each lowers the rank. It ends where the diagonal is zero.
use lib.ListN.{length}
use Rattle.binar.specs.Rows.{val}
use Rattle.blocks.specs.Words.{rows_in_lem}
use Rattle.reduction.specs.Columns.{rank}
use Rattle.self_inverse.proofs.Turns.{Peeled}
use Rattle.self_inverse.proofs.peel.Given as goal

abbrev pub invariant-loop-d : goal.invariant-loop-d
invariant-loop-d l = Peeled (rows_in_lem l.initial.rows) (rows_in_lem l.rows) l.list (val l.d)

abbrev pub decreases-loop-d : goal.decreases-loop-d
decreases-loop-d l = rank (length (rows_in_lem l.initial.rows)) (rows_in_lem l.rows)
