-- `next` adds 1 to a row's value, by what `val` says.
use Rattle.binar.specs.Rows.{val, row_bound}
use Rattle.std.proofs.Common.{rules}
use Rattle.binar.proofs.Row.next.Goals as goal

pub returns : goal.returns
unfolding val row_bound
returns c = search rules
