-- `number_at` reads from `skip` behind `from`, by `number_saturated` also where that does not fit 64 bits.
use Rattle.std.proofs.Common.{arith, rules, ◌≡◌, ◌∙◌, ◌+◌, ◌<◌, ◌^◌, min, subst, ℕ}
use Rattle.numbers.specs.Numbers.{number}
use Rattle.numbers.proofs.Numbers.{number_saturated}
use Rattle.numbers.proofs.number_at.Goals as goal

pub returns : goal.returns
returns c =
    let s = c.args in
    let size : c.min.result ≡ min s.size 8 = search rules in
    let at : c.saturating_add.result ≡ min (s.from + s.skip) 18446744073709551615 = search rules in
    let same = number_saturated s.bytes.now (s.from + s.skip) c.saturating_add.result c.min.result (omega arith) at in
    subst (λ (k : ℕ). (c.read.result ≡ number s.bytes.now (s.from + s.skip) k) × (c.read.result < 256 ^ k)) size (c.read.ensures.0 ∙ same, c.read.ensures.1)
