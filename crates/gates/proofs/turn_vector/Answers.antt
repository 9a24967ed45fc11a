-- `turn_vector` adds the four parts, by `vector_parts`.
use mathlib.Core.Path.{ap₂, ◌∙◌}
use Rattle.binar.specs.Bits.{◌⊕◌}
use Rattle.gates.proofs.Turned.{vector_parts}
use Rattle.gates.proofs.turn_vector.Goals as goal

pub returns : goal.returns
returns c =
    let s = c.args in
    c.bitxor.ensures
    ∙ ap₂ ◌⊕◌ (c.bitxor-y.ensures
    ∙ ap₂ ◌⊕◌ (c.bitxor-x.ensures ∙ ap₂ ◌⊕◌ c.unit_where.ensures c.unit_where-2.ensures)
    c.unit_where-3.ensures) c.unit_where-4.ensures
    ∙ vector_parts s.n s.a s.b s.code c.requires.0 c.requires.1 (c.requires.2, c.requires.3)
