-- `swap_halves` puts the x bits above the z bits, by `swap_rows`.
use mathlib.Core.Path.{ap, ap₂, ◌∙◌}
use Prim.Native.Nat.{ℕ, ◌*◌, ◌%◌, ◌^◌}
use Rattle.binar.specs.Bits.{◌⊕◌}
use Rattle.binar.specs.Rows.{val, row_bound}
use Rattle.symplectic.specs.Turns.{x_bits, z_bits}
use Rattle.symplectic.proofs.Pairings.{swap_rows}
use borrow.Author.Rules.{rules}
use Rattle.symplectic.proofs.swap_halves.Goals as goal

pub returns : goal.returns
unfolding x_bits z_bits
returns c =
    let s = c.args in
    let x = c.shift_up.ensures ∙ ap (λ (t : ℕ). t * 2 ^ s.n % row_bound) c.low-x.ensures in
    let z = c.low-z.ensures ∙ ap (λ (t : ℕ). t % 2 ^ s.n) c.shift_down.ensures in
    c.bitxor.ensures ∙ ap₂ ◌⊕◌ x z ∙ swap_rows s.n (val s.v) (search rules)
