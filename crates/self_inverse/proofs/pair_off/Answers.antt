-- `pair_off` takes a pair for each row that is not zero, by `pairs_turn`. At the end every row is zero.
use native.Mathlib.Omega.{arith}
use Rattle.blocks.specs.Words.{rows_in_lem}
use Rattle.self_inverse.proofs.Turns.{pairs_turn, pairs_sums, pairs_short}
use Rattle.self_inverse.proofs.pair_off.Goals as goal

pub loop-i-preserved : goal.loop-i-preserved
loop-i-preserved c =
    let at = c.loop-i in
    let s = c.args in
    pairs_turn (rows_in_lem s.rows.now) (rows_in_lem at.rows) s.list.now at.list at.i at.invariant _ _ c.peel_pair.ensures

pub returns : goal.returns
returns c =
    let at = c.loop-i in
    let s = c.args in
    let R₀ = rows_in_lem s.rows.now in record {
      sums = pairs_sums R₀ (rows_in_lem at.rows) s.list.now at.list at.i at.invariant (omega (arith, c.rows_in-m.ensures));
      short = pairs_short R₀ (rows_in_lem at.rows) s.list.now at.list at.i at.invariant;
    }
