-- `diagonal` takes the ones row by row, by `diagonal_next`.
use mathlib.Core.Path.{sym, ap, ap₂, ◌∙◌, subst}
use mathlib.Core.Bool.{Bool}
use Prim.Native.Nat.{ℕ, ◌+◌}
use native.Mathlib.Omega.{arith}
use Rattle.binar.specs.Bits.{select, bit, ◌⊕◌}
use Rattle.binar.specs.Rows.{val}
use Rattle.binar.proofs.Ones.{unit_is}
use Rattle.blocks.specs.Words.{rows_in_lem}
use Rattle.self_inverse.proofs.Diagonals.{OnFirst, diagonal_next}
use Rattle.self_inverse.proofs.diagonal.Goals as goal

pub loop-i-preserved : goal.loop-i-preserved
loop-i-preserved c =
    let at = c.loop-i in
    let R = rows_in_lem c.args.rows.now in
    let wide = c.requires in
    let is = c.added-d.ensures
    ∙ ap₂ (λ (b : Bool) (u : ℕ). val at.d ⊕ select 0 b u) (c.bit.ensures ∙ ap (bit at.i) c.row.ensures)
    (c.unit.ensures ∙ unit_is at.i (omega (arith, c.rows_in-m.ensures))) in
    subst (OnFirst R (at.i + 1)) (sym is) (diagonal_next R at.i (val at.d) at.invariant)
