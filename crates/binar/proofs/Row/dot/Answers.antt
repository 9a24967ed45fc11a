-- `dot` answers the parity of the shared ones, by `dot_ones`.
use Rattle.std.proofs.Common.{sym}
use Rattle.binar.proofs.Dots.{dot_ones}
use Rattle.binar.specs.Rows.{val}
use Rattle.binar.specs.Bits.{odd}
use Rattle.binar.proofs.Row.dot.Goals as goal

pub returns : goal.returns
unfolding odd val
returns c = sym (dot_ones _ _)
