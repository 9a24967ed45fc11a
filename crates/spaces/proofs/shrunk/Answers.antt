-- `shrunk` takes the steps of its definition.
use mathlib.Core.Path.{◌≡◌, ap, ap₂, ◌∙◌}
use Prim.Native.Nat.{◌/◌, ◌^◌}
use Rattle.binar.specs.Bits.{select, ◌⊕◌}
use Rattle.binar.specs.Rows.{val}
use Rattle.spaces.specs.Levels.{without_column, shrunk}
use Rattle.spaces.proofs.shrunk.Goals as goal

pub returns : goal.returns
unfolding shrunk without_column
returns c =
    let s = c.args in
    let y : val c.added-y.result ≡ _ = c.added-y.ensures ∙ ap (λ b. val s.x ⊕ select 0 b (val s.h)) c.bit.ensures in
    c.bitxor-2.ensures
    ∙ ap₂ ◌⊕◌ c.low-low.ensures (c.shift_down.ensures ∙ ap (λ t. t / 2 ^ 1) (c.bitxor.ensures ∙ ap (λ t. val c.added-y.result ⊕ t) c.low-low.ensures))
    ∙ ap (without_column s.j) y
