-- `put_units` puts the unit rows over the rows, one by one, by `over_next` and `over_end`.
use mathlib.Core.Path.{sym, ◌∙◌}
use Prim.Native.Nat.{◌<◌, min}
use native.Mathlib.Omega.{arith}
use lib.ListN.{length}
use Rattle.binar.specs.Rows.{width}
use Rattle.binar.proofs.Ones.{unit_is}
use Rattle.blocks.specs.Matrices.{units}
use Rattle.blocks.specs.Words.{rows_in_lem}
use Rattle.blocks.proofs.Units.{units_length, units_at}
use Rattle.blocks.proofs.Overs.{over_next, over_end}
use Rattle.blocks.proofs.put_units.Goals as goal

pub loop-i-preserved : goal.loop-i-preserved
loop-i-preserved c =
    let s = c.args in
    let at = c.loop-i in
    let m = min s.k width in
    let few = c.min-count.ensures in
    let first = c.min.ensures in
    let h : at.i < m = omega (arith, few, first) in
    let g : at.i < length (rows_in_lem s.w.now) = omega (arith, few, c.rows_in.ensures) in
    c.put.ensures
    ∙ over_next (units m) (rows_in_lem s.w.now) (rows_in_lem at.w) at.i _ (omega (arith, h, units_length m)) g at.invariant
    (c.unit.ensures ∙ unit_is at.i (omega (arith, h)) ∙ sym (units_at at.i m h))

pub returns : goal.returns
returns c =
    let s = c.args in
    let at = c.loop-i in
    let m = min s.k width in
    at.invariant ∙ over_end (units m) (rows_in_lem s.w.now) at.i (omega (arith, units_length m, c.min-count.ensures, c.min.ensures, c.rows_in.ensures))
