-- `power` answers a power of 2, by `shl_exact`.
use Rattle.std.proofs.Common.{◌^◌, ◌∙◌, one-mul, arith, shl_exact}
use Rattle.binar.proofs.power.Goals as goal

pub returns : goal.returns
returns c = shl_exact 1 c.args.k 64 (omega arith) (omega arith) ∙ one-mul (2 ^ c.args.k)
