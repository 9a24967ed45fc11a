-- `put_front` puts row after row, by `over_next` and `over_end`.
use mathlib.Core.Path.{refl, sym, ◌∙◌}
use Prim.Native.Nat.{◌<◌}
use lib.ListN.{take, length-take}
use lib.Seq.{get_or-take}
use Rattle.blocks.proofs.Overs.{over_next, over_end}
use Rattle.blocks.specs.Words.{rows_in_lem}
use native.Mathlib.Omega.{arith}
use borrow.Author.Rules.{rules}
use Rattle.matrices.proofs.put_front.Goals as goal

pub loop-i-init : goal.loop-i-init
loop-i-init c = (search rules, refl, refl)

pub loop-i-preserved : goal.loop-i-preserved
loop-i-preserved c =
    let at = c.loop-i in
    let s = c.args in
    let rows = rows_in_lem s.w.now in
    let size = length-take s.k rows in
    let m = c.min-m.ensures in
    let room = c.rows_in-2.ensures in
    let l = c.min.ensures in
    let held = c.rows_in.ensures in
    let h : at.i < s.k = omega (arith, m, room, l, held) in
    let v = c.row.ensures ∙ sym (get_or-take s.k rows at.i 0 h) in (
      search rules,
      search rules,
      c.put.ensures ∙ over_next (take s.k rows) (rows_in_lem s.out.now) (rows_in_lem at.out) at.i _ (omega (arith, size, m, room, l, held)) (omega (arith, m, room, l, held)) at.invariant.2 v,
    )

pub returns : goal.returns
returns c =
    let at = c.loop-i in
    let s = c.args in
    let rows = rows_in_lem s.w.now in
    let m = c.min-m.ensures in
    let room = c.rows_in-2.ensures in
    let l = c.min.ensures in
    let held = c.rows_in.ensures in
    at.invariant.2 ∙ over_end (take s.k rows) (rows_in_lem s.out.now) at.i (omega (arith, length-take s.k rows, m, room, l, held))
