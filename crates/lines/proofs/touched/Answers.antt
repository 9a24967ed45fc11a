-- `touched` counts the ones of x OR z, by `touched_weight`.
use mathlib.Core.Path.{ap, ◌∙◌}
use Prim.Native.Nat.{ℕ, ◌%◌, ◌^◌}
use lib.Bits.{bit_or}
use Rattle.binar.specs.Bits.{weight}
use Rattle.binar.specs.Rows.{val}
use Rattle.lines.proofs.Loads.{touched_weight}
use Rattle.lines.proofs.touched.Goals as goal

pub returns : goal.returns
returns c =
    let s = c.args in
    c.weight.ensures
    ∙ ap weight (c.low.ensures ∙ ap (λ (w : ℕ). w % 2 ^ s.n) (c.bitor-either.ensures ∙ ap (bit_or (val s.v)) c.shift_down.ensures))
    ∙ touched_weight s.n (val s.v)
