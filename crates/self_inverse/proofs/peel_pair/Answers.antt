-- `peel_pair` leaves all as it was where row i is zero; else it takes a pair, by `pair_turn`.
use mathlib.Core.Path.{◌≡◌, sym, ap, ◌∙◌, subst₂}
use mathlib.Core.Bool.{false}
use mathlib.Core.List.{List}
use Prim.Native.Nat.{ℕ}
use native.Mathlib.Omega.{arith}
use lib.Dec.{eqb}
use lib.ListN.{get_or}
use borrow.Author.Tests.{eqb-true}
use Rattle.binar.specs.Rows.{val, lowest}
use Rattle.blocks.specs.Words.{rows_in_lem}
use Rattle.blocks.proofs.Products.{times_unit}
use Rattle.self_inverse.specs.inner.Peels.{plus_outer, Paired}
use Rattle.self_inverse.proofs.Pairs.{unpaired}
use Rattle.self_inverse.proofs.Turns.{pair_turn, pair_room}
use borrow.Author.Rules.{rules}
use Rattle.self_inverse.proofs.peel_pair.Goals as goal
use Rattle.self_inverse.proofs.peel_pair.Goals.{After-row-s}

pub returns-then-is_zero : goal.returns-then-is_zero
returns-then-is_zero c =
    let s = c.args in
    let R = rows_in_lem s.rows.now in
    let row = c.row-f in
    let zero : val row.result ≡ 0 = eqb-true (val row.result) 0 (sym c.is_zero.ensures ∙ c.if-is_zero.true) in
    unpaired s.i R s.list.now c.requires.0.square c.requires.1 (times_unit s.i R ∙ sym row.ensures ∙ zero)

-- row i has a one
other : (c : goal.After-row-s) → eqb (val c.row-f.result) 0 ≡ false
other c = sym c.is_zero.ensures ∙ search (rules, c.if-is_zero.false)

-- and its partner is the row of the first
partner : (c : goal.After-row-s) → val c.row-s.result ≡ get_or (rows_in_lem c.args.rows.now) (lowest (val c.row-f.result)) 0
partner c = c.row-s.ensures ∙ ap (λ (j : ℕ). get_or (rows_in_lem c.args.rows.now) j 0) c.lowest.ensures

pub put_pair-requires : goal.put_pair-requires
put_pair-requires c =
    let p = c.requires in
    let s = c.args in
    let R = rows_in_lem s.rows.now in
    let row = c.row-f in
    omega (
      arith,
      p.0.narrow,
      pair_room R p.0.square p.1 p.0.narrow s.i (val row.result) (val c.row-s.result) row.ensures (partner (goal.at.put_pair-requires c).After-row-s) (other (goal.at.put_pair-requires c).After-row-s) s.list.now p.2,
    )

pub returns : goal.returns
returns c =
    let p = c.requires in
    let s = c.args in
    let R = rows_in_lem s.rows.now in
    let row = c.row-f in
    let f = val row.result in
    let g = val c.row-s.result in
    let left = c.add_outer-2.ensures ∙ ap (plus_outer g f) c.add_outer.ensures in
    subst₂ (λ (x l : List ℕ). Paired s.i R x s.list.now l) (sym left) (sym c.put_pair.ensures)
    (pair_turn R p.0.square p.1 p.0.narrow s.i f g row.ensures (partner (goal.at.returns c).After-row-s) (other (goal.at.returns c).After-row-s) s.list.now)
