-- `put_identity` puts 2n unit rows, which are no more than a row has columns.
use mathlib.Core.Path.{◌≡◌, ap, ◌∙◌}
use Prim.Native.Nat.{◌+◌, min}
use native.Mathlib.Omega.{arith}
use Rattle.binar.specs.Rows.{width}
use Rattle.blocks.specs.Matrices.{units}
use Rattle.blocks.specs.Words.{rows_in_lem, over}
use Rattle.symplectic.specs.Sizes.{capped}
use Rattle.symplectic.proofs.Sizes.{capped_le}
use Rattle.symplectic.proofs.put_identity.Goals as goal

pub overflow_add-k : goal.overflow_add-k
overflow_add-k c = omega (arith, capped_le c.args.n, c.capped-k.ensures)

pub returns : goal.returns
returns c =
    let s = c.args in
    let k = c.capped-k.result in
    let e : min (k + k) width ≡ capped s.n + capped s.n = omega (arith, c.capped-k.ensures, capped_le s.n) in
    c.put_units.ensures ∙ ap (λ m. over (units m) (rows_in_lem s.w.now)) e
