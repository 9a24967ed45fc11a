-- `row_reduce_with_transform` reduces the front of both, by `fitting_front`; what came back stands over the rest, by `put_back` and `pivots_over`, and the promises of
-- the pivots hold of it, by `fitting_pivoted`.
use mathlib.Core.Path.{◌≡◌, sym, ap, ◌∙◌}
use mathlib.Core.List.{List, map}
use Prim.Native.Nat.{ℕ, min}
use lib.ListN.{length, take}
use Rattle.binar.specs.Rows.{width}
use Rattle.blocks.specs.Words.{rows_in_lem, over}
use Rattle.blocks.proofs.Lent.{lent_front}
use Rattle.symplectic.proofs.Work.{part_rows}
use Rattle.reduction.specs.Columns.{rows, row_reduce_with_transform_lem, rank}
use Rattle.reduction.proofs.InPlace.{fitting_front, pivots_over, fitting_pivoted}
use Rattle.reduction.proofs.Words.{put_back}
use native.Mathlib.Omega.{arith}
use Rattle.reduction.proofs.row_reduce_with_transform.Goals as goal
use Rattle.reduction.proofs.row_reduce_with_transform.Goals.{After-min-k}

-- as many rows as all three have, at most as many as a row has columns
least : (c : goal.After-min-k) → let s = c.args in c.min-k.result ≡ min width (min (length s.pivots.now) (min (length (rows_in_lem s.a.now)) (length (rows_in_lem s.t.now))))
least c = omega (arith, c.min-k.ensures, c.min.ensures, c.min-both.ensures, c.rows_in-2.ensures, c.rows_in.ensures)

pub reduce-requires : goal.reduce-requires
reduce-requires c =
    let s = c.args in
    let k = c.min-k.result in
    let e = least (goal.at.reduce-requires c).After-min-k in
    let sizeA = part_rows k c.start-to.result s.a.now c.start-to.ensures (omega (arith, e)) in
    let sizeT = part_rows k c.start-until.result s.t.now c.start-until.ensures (omega (arith, e)) in
    (sizeA ∙ sym sizeT, omega (arith, sizeA, e), omega (arith, sizeA, e))

pub returns : goal.returns
returns c =
    let s = c.args in
    let A = rows_in_lem s.a.now in
    let T = rows_in_lem s.t.now in
    let ps = s.pivots.now in
    let k = c.min-k.result in
    let e = least (goal.at.returns c).After-min-k in
    let to = c.start-to in
    let until = c.start-until in
    let o = c.reduce in
    let qs = o.new.pivots in
    let is = lent_front k to.result s.a.now to.ensures ∙ fitting_front A T ps k e in
    let all : List ℕ → List (ℕ × ℕ) = λ l. rows (row_reduce_with_transform_lem s.m l) in
    let ranked = o.ensures.0.0 ∙ ap (rank s.m) is in
    let back_a = put_back k to.result s.a.now to.ensures (omega (arith, e)) o.new.a o.auto.a in
    let back_t = put_back k until.result s.t.now until.ensures (omega (arith, e)) o.new.t o.auto.t in
    let reduced = back_a ∙ ap (λ (l : List ℕ). over l A) (o.ensures.0.1 ∙ ap (λ (l : List ℕ). map (λ x. x.0) (all l)) is) in
    let transformed = back_t ∙ ap (λ (l : List ℕ). over l T) (o.ensures.0.2 ∙ ap (λ (l : List ℕ). map (λ x. x.1) (all l)) is) in
    let found = o.ensures.0.3 ∙ ap (λ (l : List ℕ). (row_reduce_with_transform_lem s.m l).pivots) is in
    let promises = fitting_pivoted s.m A T ps o.result ranked (take o.result qs) _ found reduced in record {
      ranked = ranked;
      reduced = reduced;
      transformed = transformed;
      pivoted = pivots_over s.m A T ps o.result ranked qs found o.ensures.1;
      first_ones = promises.0;
      no_other_ones = promises.1;
      ascending = promises.2;
      within = promises.3;
    }
