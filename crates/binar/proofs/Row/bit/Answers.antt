-- `bit` answers the bit of its row: below the width by its words, past it by `past_bit`.
use Rattle.std.proofs.Common.{sym, rules}
use Rattle.binar.proofs.Widths.{past_bit}
use Rattle.binar.specs.Rows.{val}
use Rattle.binar.specs.Bits.{odd, bit}
use Rattle.binar.proofs.Row.bit.Goals as goal

pub returns-then-k-lt-WIDTH : goal.returns-then-k-lt-WIDTH
unfolding bit odd val
returns-then-k-lt-WIDTH c = search rules

pub returns-else-k-lt-WIDTH : goal.returns-else-k-lt-WIDTH
unfolding val
returns-else-k-lt-WIDTH c = sym (past_bit c.args.self.word c.args.k (search rules) (search rules))
