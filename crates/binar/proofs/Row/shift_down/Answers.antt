-- `shift_down` halves k times: below the width by its words, past it by `past_down`.
use Rattle.std.proofs.Common.{sym, rules}
use Rattle.binar.proofs.Widths.{past_down}
use Rattle.binar.specs.Rows.{val}
use Rattle.binar.proofs.Row.shift_down.Goals as goal

pub returns-else-k-lt-WIDTH : goal.returns-else-k-lt-WIDTH
unfolding val
returns-else-k-lt-WIDTH c = sym (past_down c.args.self.word c.args.k (search rules) (search rules))
