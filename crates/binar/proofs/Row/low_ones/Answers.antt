-- `low_ones` is one less than a power of 2: below the width by `power`, past it by `past_ones`.
use Rattle.std.proofs.Common.{sym, rules}
use Rattle.binar.proofs.Widths.{past_ones}
use Rattle.binar.specs.Rows.{val, row_bound}
use Rattle.binar.proofs.Row.low_ones.Goals as goal

pub returns-then-k-lt-WIDTH : goal.returns-then-k-lt-WIDTH
unfolding val row_bound
returns-then-k-lt-WIDTH c = search rules

pub returns-else-k-lt-WIDTH : goal.returns-else-k-lt-WIDTH
unfolding val row_bound
returns-else-k-lt-WIDTH c = sym (past_ones c.args.k (search rules))
