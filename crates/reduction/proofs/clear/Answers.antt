-- `clear` adds to row after row of both, by `cleared_next` and `cleared_end`.
use mathlib.Core.Path.{ap, ap₂, ◌∙◌}
use mathlib.Core.List.{zip}
use Prim.Native.Nat.{ℕ, ◌≤◌, ◌<◌}
use lib.ListN.{length}
use Rattle.binar.specs.Bits.{select, bit, ◌⊕◌}
use Rattle.binar.specs.Rows.{val}
use Rattle.blocks.specs.Words.{rows_in_lem}
use Rattle.reduction.proofs.Swept.{cleared_next, cleared_end}
use Rattle.blocks.proofs.Lent.{lent_same}
use native.Mathlib.Omega.{arith}
use Rattle.reduction.proofs.clear.Goals as goal

pub loop-i-preserved : goal.loop-i-preserved
loop-i-preserved c =
    let at = c.loop-i in
    let s = c.args in
    let sizeR = lent_same at.a s.a.now at.auto.a in
    let sizeT = lent_same at.t s.t.now at.auto.t in
    let has = c.bit-has in
    let x = c.row-x.ensures in
    let y = c.row.ensures in
    let put = c.put in
    let put2 = c.put-in-loop-i in
    let test = c.loop-i-test.true in
    let least = c.min-k.ensures in
    let count = c.rows_in.ensures in
    let h : at.i < length (rows_in_lem s.a.now) = omega (arith, count, least, test) in
    ap₂ zip put.ensures put2.ensures
    ∙ cleared_next s.c (val s.v) (val s.w) at.i (rows_in_lem s.a.now) (rows_in_lem s.t.now) c.requires (rows_in_lem at.a) (rows_in_lem at.t) sizeR sizeT h at.invariant
    has.result _ _ (has.ensures ∙ ap (bit s.c) x)
    (c.added.ensures ∙ ap (λ (z : ℕ). z ⊕ select 0 has.result (val s.v)) x)
    (c.added-in-loop-i.ensures ∙ ap (λ (z : ℕ). z ⊕ select 0 has.result (val s.w)) y)

pub returns : goal.returns
returns c =
    let at = c.loop-i in
    let s = c.args in
    let k = c.min-k.ensures in
    let all : length (rows_in_lem s.a.now) ≤ at.i = omega (arith, k, c.rows_in-2.ensures, c.rows_in.ensures, c.requires) in
    at.invariant ∙ cleared_end s.c (val s.v) (val s.w) at.i (rows_in_lem s.a.now) (rows_in_lem s.t.now) c.requires all
