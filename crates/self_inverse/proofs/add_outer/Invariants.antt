-- `add_outer` puts the rows of the sum one by one, by `outer_at`.
use mathlib.Core.Path.{◌≡◌}
use mathlib.Core.List.{◌++◌}
use lib.ListN.{take, drop}
use Rattle.binar.specs.Rows.{val}
use Rattle.blocks.specs.Words.{rows_in_lem}
use Rattle.self_inverse.specs.inner.Peels.{plus_outer}
use Rattle.self_inverse.proofs.add_outer.Given as goal

abbrev pub invariant-loop-i : goal.invariant-loop-i
invariant-loop-i l = rows_in_lem l.rows ≡ take l.i (plus_outer (val l.u) (val l.v) (rows_in_lem l.initial.rows)) ++ drop l.i (rows_in_lem l.initial.rows)
