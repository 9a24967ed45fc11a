-- `added` sums where the bit is set.
use Rattle.std.proofs.Common.{sym, ap, ◌∙◌}
use Rattle.binar.specs.Bits.{select, ◌⊕◌}
use Rattle.binar.specs.Rows.{val}
use Rattle.binar.proofs.Sums.{sum_zero}
use Rattle.binar.proofs.Row.added.Goals as goal

pub returns-then-on : goal.returns-then-on
returns-then-on c =
    let s = c.args in
    c.bitxor.ensures ∙ ap (λ b. val s.self ⊕ select 0 b (val s.other)) (sym c.if-on.true)

pub returns-else-on : goal.returns-else-on
returns-else-on c =
    let s = c.args in
    sym (ap (λ b. val s.self ⊕ select 0 b (val s.other)) c.if-on.false ∙ sum_zero (val s.self))
