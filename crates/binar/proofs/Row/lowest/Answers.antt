-- `lowest` answers the column of the lowest one; its cast fits by `trailing_le`.
use lib.Count.{count_trailing_zeros}
use Rattle.std.proofs.Common.{rules}
use Rattle.binar.specs.Rows.{val, lowest}
use Rattle.binar.proofs.Row.lowest.Goals as goal

pub returns : goal.returns
unfolding count_trailing_zeros lowest val
returns c = search rules
