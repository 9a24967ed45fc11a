-- `pair_off` takes a pair for each row that is not zero, by `pairs_turn`. At the end every row is zero.
use Rattle.blocks.specs.Words.{rows_in_lem}
use Rattle.self_inverse.proofs.Turns.{PairedOff}
use Rattle.self_inverse.proofs.pair_off.Given as goal

abbrev pub invariant-loop-i : goal.invariant-loop-i
invariant-loop-i l = PairedOff (rows_in_lem l.initial.rows) (rows_in_lem l.rows) l.initial.list l.list l.i
