-- `reduce` starts from the unit rows, by `begun`; what is left is the reduction, by `reduced_in`.
use mathlib.Core.Path.{◌≡◌, sym, ap, ◌∙◌}
use Prim.Native.Nat.{min}
use lib.ListN.{length, take}
use Rattle.blocks.specs.Matrices.{units}
use Rattle.binar.specs.Rows.{width}
use Rattle.blocks.specs.Words.{rows_in_lem, over}
use Rattle.blocks.proofs.Overs.{over_same}
use Rattle.blocks.proofs.Units.{units_length}
use Rattle.reduction.proofs.Loops.{begun, reduced_in}
use Rattle.blocks.proofs.Lent.{lent_same}
use native.Mathlib.Omega.{arith}
use borrow.Author.Rules.{rules}
use Rattle.reduction.proofs.reduce.Goals as goal
use Rattle.reduction.proofs.reduce.Goals.{After-put_units}

-- the unit rows, as many as there are
begin_units : (c : After-put_units) → rows_in_lem c.put_units.new.w ≡ units (length (rows_in_lem c.args.t.now))
begin_units c =
    let t = rows_in_lem c.args.t.now in
    let k = length t in
    let e : min c.rows_in.result width ≡ k = omega (arith, c.rows_in.ensures, c.requires.0, c.requires.2) in
    c.put_units.ensures ∙ ap (λ m. over (units m) t) e ∙ over_same (units k) t (units_length k)

pub by_columns-requires : goal.by_columns-requires
by_columns-requires c =
    let k = length (rows_in_lem c.args.t.now) in
    let size = ap length (begin_units (goal.at.by_columns-requires c).After-put_units) ∙ units_length k in
    (c.requires.0 ∙ sym size, c.requires.1)

pub returns : goal.returns
returns c =
    let s = c.args in
    let put = c.put_units in
    let o = c.by_columns in
    let a = o.new.a in
    let t = o.new.t in
    let M = rows_in_lem s.a.now in
    let even = c.requires.0 in
    let begin = begin_units (goal.at.returns c).After-put_units ∙ ap units (sym even) in
    let long = lent_same a s.a.now (search rules) in
    let same = long ∙ even ∙ sym (lent_same t s.t.now (search rules)) in
    let all = o.ensures.2 ∙ begun s.m M (rows_in_lem put.new.w) begin in (
      reduced_in s.m M o.result (take o.result o.new.pivots) (rows_in_lem a) (rows_in_lem t) same all (omega (arith, long, o.ensures.0)),
      o.ensures.1,
    )
