-- `add_outer` puts the rows of the sum one by one, by `outer_at`.
use mathlib.Core.Path.{sym, ap₂, ◌∙◌}
use mathlib.Core.Bool.{Bool}
use Prim.Native.Nat.{ℕ, ◌<◌}
use lib.ListN.{length}
use Rattle.binar.specs.Bits.{select, ◌⊕◌}
use Rattle.binar.specs.Rows.{val}
use Rattle.blocks.specs.Words.{rows_in_lem}
use Rattle.blocks.proofs.Overs.{over_next, over_left, over_whole}
use Rattle.self_inverse.specs.inner.Peels.{plus_outer}
use Rattle.self_inverse.proofs.Outers.{outer_length, outer_at}
use native.Mathlib.Omega.{arith}
use native.Mathlib.Nat.{le_refl}
use Rattle.self_inverse.proofs.add_outer.Goals as goal

pub loop-i-preserved : goal.loop-i-preserved
loop-i-preserved c =
    let at = c.loop-i in
    let s = c.args in
    let old = rows_in_lem s.rows.now in
    let sum = plus_outer (val s.u) (val s.v) old in
    let long = outer_length (val s.u) (val s.v) old in
    let l : at.i < length old = omega (arith, c.rows_in-m.ensures) in
    c.put.ensures
    ∙ over_next sum old (rows_in_lem at.rows) at.i _ (omega arith) l at.invariant
    (c.added.ensures
    ∙ ap₂ (λ (x : ℕ) (b : Bool). x ⊕ select 0 b (val s.v))
    (c.row-w.ensures ∙ over_left 0 sum old (rows_in_lem at.rows) at.i at.i at.invariant (omega arith) (le_refl at.i))
    c.bit.ensures ∙ sym (outer_at (val s.u) (val s.v) old at.i l))

pub returns : goal.returns
returns c =
    let at = c.loop-i in
    let s = c.args in
    let old = rows_in_lem s.rows.now in
    let sum = plus_outer (val s.u) (val s.v) old in
    at.invariant ∙ over_whole 0 sum old at.i (omega (arith, c.rows_in-m.ensures, outer_length (val s.u) (val s.v) old)) (omega (arith, c.rows_in-m.ensures))
