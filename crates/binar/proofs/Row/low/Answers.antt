-- `low` keeps the columns below k: below the width by `power`, past it by `past_low`.
use Rattle.std.proofs.Common.{sym, rules}
use Rattle.binar.proofs.Widths.{past_low}
use Rattle.binar.specs.Rows.{val}
use Rattle.binar.proofs.Row.low.Goals as goal

pub returns-else-k-lt-WIDTH : goal.returns-else-k-lt-WIDTH
unfolding val
returns-else-k-lt-WIDTH c = sym (past_low c.args.self.word c.args.k (search rules) (search rules))
