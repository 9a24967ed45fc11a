-- `^=` adds rows, by what `val` and the sum say.
use Rattle.binar.specs.Bits.{◌⊕◌}
use Rattle.binar.specs.Rows.{val}
use Rattle.std.proofs.Common.{rules}
use Rattle.binar.proofs.RowBitXorAssign.bitxor_assign.Goals as goal

pub returns : goal.returns
unfolding val ◌⊕◌
returns c = search rules
