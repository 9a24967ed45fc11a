-- `weight` answers the count of ones, by `weight_ones`; its cast fits by `ones-le`.
use Rattle.std.proofs.Common.{sym}
use Rattle.binar.proofs.Dots.{weight_ones}
use Rattle.binar.specs.Rows.{val}
use Rattle.binar.proofs.Row.weight.Goals as goal

pub returns : goal.returns
unfolding val
returns c = sym (weight_ones c.args.self.word)
