-- `unit` makes a unit row: below the width by `power`, past it by `unit_past`.
use Rattle.std.proofs.Common.{sym, rules}
use Rattle.binar.proofs.Widths.{unit_past}
use Rattle.binar.specs.Rows.{val, row_bound, unit}
use Rattle.binar.proofs.Row.unit.Goals as goal

pub returns-then-k-lt-WIDTH : goal.returns-then-k-lt-WIDTH
unfolding val unit row_bound
returns-then-k-lt-WIDTH c = search rules

pub returns-else-k-lt-WIDTH : goal.returns-else-k-lt-WIDTH
unfolding val unit row_bound
returns-else-k-lt-WIDTH c = sym (unit_past c.args.k (search rules))
