-- `peel` lists a row at each turn, by `peel_turn`; each lowers the rank. It ends where the diagonal is zero.
use mathlib.Core.Path.{◌≡◌, sym, ap, ◌∙◌, subst, subst₂}
use mathlib.Core.Bool.{false}
use mathlib.Core.List.{List, [], ◌∷◌, ◌++◌}
use Prim.Native.Nat.{ℕ, ◌<◌}
use native.Mathlib.Omega.{arith}
use lib.Dec.{eqb}
use lib.ListN.{length, get_or}
use borrow.Author.Tests.{eqb-true}
use Rattle.binar.specs.Rows.{val, lowest}
use Rattle.blocks.specs.Words.{rows_in_lem}
use Rattle.reduction.specs.Columns.{rank}
use Rattle.self_inverse.specs.inner.Peels.{plus_outer}
use Rattle.self_inverse.proofs.Turns.{Peeled, peel_begins, peel_room, peel_ends, peel_less, peel_turn}
use Rattle.self_inverse.proofs.peel.Goals as goal
use Rattle.self_inverse.proofs.peel.Goals.{After-row-v, In-loop-d}

-- the diagonal has a one, and the row of the first is taken
other : (c : goal.In-loop-d) → eqb (val c.loop-d.d) 0 ≡ false
other c = sym c.is_zero.ensures ∙ c.loop-d-test.true

row_is : (c : goal.After-row-v) → let at = c.loop-d in val c.row-v.result ≡ get_or (rows_in_lem at.rows) (lowest (val at.d)) 0
row_is c = let at = c.loop-d in c.row-v.ensures ∙ ap (λ (i : ℕ). get_or (rows_in_lem at.rows) i 0) c.lowest.ensures

pub loop-d-init : goal.loop-d-init
loop-d-init c =
    let M = rows_in_lem c.args.rows.now in
    subst (λ (l : List ℕ). Peeled M M l (val c.diagonal-d.result)) (sym c.requires.1) (peel_begins M (val c.diagonal-d.result) c.requires.0.square c.diagonal-d.ensures)

pub push-requires : goal.push-requires
push-requires c =
    let at = c.loop-d in
    omega (arith, c.requires.0.narrow, peel_room (rows_in_lem c.args.rows.now) (rows_in_lem at.rows) at.list (val at.d) at.invariant)

pub loop-d-smaller : goal.loop-d-smaller
loop-d-smaller c =
    let at = c.loop-d in
    let M = rows_in_lem c.args.rows.now in
    let R = rows_in_lem at.rows in
    subst (λ (x : List ℕ). rank (length M) x < rank (length M) R) (sym c.add_outer.ensures)
    (peel_less M R at.list (val at.d) at.invariant c.requires.0.narrow (other (goal.at.loop-d-smaller c).In-loop-d) (val c.row-v.result) (row_is (goal.at.loop-d-smaller c).After-row-v))

pub loop-d-preserved : goal.loop-d-preserved
loop-d-preserved c =
    let at = c.loop-d in
    let M = rows_in_lem c.args.rows.now in
    let R = rows_in_lem at.rows in
    let v = val c.row-v.result in
    subst₂ (λ (x l : List ℕ). Peeled M x l (val c.bitxor_assign.new.self)) (sym c.add_outer.ensures) (sym c.push.ensures)
    (subst (Peeled M (plus_outer v v R) (at.list ++ (v ∷ []))) (sym c.bitxor_assign.ensures.after)
    (peel_turn M R at.list (val at.d) at.invariant c.requires.0.narrow (other (goal.at.loop-d-preserved c).In-loop-d) v (row_is (goal.at.loop-d-preserved c).After-row-v)))

pub returns : goal.returns
returns c =
    let at = c.loop-d in
    let p = at.invariant in
    let zero : val at.d ≡ 0 = eqb-true (val at.d) 0 (sym c.is_zero.ensures ∙ c.loop-d-test.false) in record {
      square = p.square;
      left = (p.rest, peel_ends _ (rows_in_lem at.rows) _ (val at.d) p zero);
      split = p.split;
      short = p.short;
    }
