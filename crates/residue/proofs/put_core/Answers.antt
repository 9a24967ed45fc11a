-- `put_core` puts the dots of row after row, by `over_next` and `over_end`.
use mathlib.Core.Path.{sym, ap, ◌∙◌}
use Prim.Native.Nat.{◌<◌}
use lib.ListN.{take}
use lib.Seq.{get_or-take, length-take-le}
use Rattle.blocks.specs.Matrices.{dots}
use Rattle.blocks.specs.Words.{rows_in_lem}
use Rattle.blocks.proofs.Overs.{over_next, over_end}
use Rattle.residue.specs.Residue.{times_transposed}
use Rattle.residue.proofs.Forms.{transposed_length, transposed_at}
use native.Mathlib.Omega.{arith}
use Rattle.residue.proofs.put_core.Goals as goal

pub loop-i-preserved : goal.loop-i-preserved
loop-i-preserved c =
    let at = c.loop-i in
    let s = c.args in
    let rows = rows_in_lem s.rows.now in
    let B = take s.k rows in
    let R = take s.k (rows_in_lem s.transform.now) in
    let size = length-take-le s.k rows c.requires.1 in
    let m = c.min-m.ensures in
    let room = c.rows_in.ensures in
    let h : at.i < s.k = omega (arith, m) in
    let row = c.row.ensures ∙ sym (get_or-take s.k rows at.i 0 h) in
    let v = c.dots.ensures ∙ ap (dots R) row ∙ sym (transposed_at B R at.i (omega (arith, size))) in
    c.put.ensures ∙ over_next (times_transposed B R) (rows_in_lem s.out.now) (rows_in_lem at.out) at.i _ (omega (arith, size, transposed_length B R)) (omega (arith, m, room)) at.invariant v

pub returns : goal.returns
returns c =
    let at = c.loop-i in
    let s = c.args in
    let B = take s.k (rows_in_lem s.rows.now) in
    let R = take s.k (rows_in_lem s.transform.now) in
    let size = length-take-le s.k (rows_in_lem s.rows.now) c.requires.1 in
    let m = c.min-m.ensures in
    at.invariant ∙ over_end (times_transposed B R) (rows_in_lem s.out.now) at.i (omega (arith, size, transposed_length B R, m, c.rows_in.ensures))
