-- `fits` compares with a power of 2: below the width by `power`, past it by `past_fits`.
use Rattle.std.proofs.Common.{sym, rules}
use Rattle.binar.proofs.Widths.{past_fits}
use Rattle.binar.specs.Rows.{val}
use Rattle.binar.proofs.Row.fits.Goals as goal

pub returns-else-m-lt-WIDTH : goal.returns-else-m-lt-WIDTH
unfolding val
returns-else-m-lt-WIDTH c = sym (past_fits c.args.self.word c.args.m (search rules) (search rules))
