-- `shift_up` doubles k times: below the width by its words, past it by `past_up`.
use Rattle.std.proofs.Common.{sym, rules}
use Rattle.binar.proofs.Widths.{past_up}
use Rattle.binar.specs.Rows.{val, row_bound}
use Rattle.binar.proofs.Row.shift_up.Goals as goal

pub returns-then-k-lt-WIDTH : goal.returns-then-k-lt-WIDTH
unfolding val row_bound
returns-then-k-lt-WIDTH c = search rules

pub returns-else-k-lt-WIDTH : goal.returns-else-k-lt-WIDTH
unfolding val row_bound
returns-else-k-lt-WIDTH c = sym (past_up c.args.self.word c.args.k (search rules))
