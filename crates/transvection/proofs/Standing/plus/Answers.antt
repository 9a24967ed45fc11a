-- `plus` sums a row and its basis vector, by `unit_is`.
use mathlib.Core.Path.{ap₂, ◌∙◌}
use native.Mathlib.Omega.{arith}
use Rattle.binar.specs.Bits.{◌⊕◌}
use Rattle.binar.proofs.Ones.{unit_is}
use Rattle.transvection.proofs.Standing.plus.Goals as goal

pub returns : goal.returns
returns c = let s = c.args in c.bitxor.ensures ∙ ap₂ ◌⊕◌ c.row.ensures (c.unit.ensures ∙ unit_is s.i (omega (arith, s.self.now.few)))
