-- `turned` adds v where the dot is 1.
use mathlib.Core.Path.{sym, ap, ◌∙◌}
use mathlib.Core.Bool.{Bool}
use Rattle.binar.specs.Bits.{◌⊕◌, select}
use Rattle.binar.specs.Rows.{val}
use Rattle.binar.proofs.Sums.{sum_zero}
use Rattle.symplectic.proofs.turned.Goals as goal

pub returns-then-dot : goal.returns-then-dot
returns-then-dot c =
    let s = c.args in
    c.bitxor.ensures ∙ ap (λ (b : Bool). val s.u ⊕ select 0 b (val s.v)) (sym c.if-dot.true ∙ c.dot.ensures)

pub returns-else-dot : goal.returns-else-dot
returns-else-dot c =
    let s = c.args in
    sym (sum_zero (val s.u)) ∙ ap (λ (b : Bool). val s.u ⊕ select 0 b (val s.v)) (sym c.if-dot.false ∙ c.dot.ensures)
