-- `follow` puts the turned rows over the rows, one by one, by `over_next`.
use mathlib.Core.Path.{refl, sym, ap, ◌∙◌}
use Prim.Native.Nat.{ℕ, ◌<◌}
use native.Mathlib.Nat.{le_refl}
use native.Mathlib.Omega.{arith}
use lib.ListN.{length}
use Rattle.binar.specs.Rows.{val}
use Rattle.blocks.specs.Words.{rows_in_lem}
use Rattle.blocks.proofs.Overs.{over_next}
use Rattle.symplectic.specs.Sizes.{capped}
use Rattle.symplectic.specs.Turns.{turn, followed}
use Rattle.symplectic.specs.inner.Vectors.{swap_halves_lem}
use Rattle.symplectic.proofs.Pairings.{swap_turn}
use Rattle.symplectic.proofs.Products.{followed_length, followed_at}
use Rattle.symplectic.proofs.Sizes.{capped_le}
use Rattle.blocks.proofs.Overs.{over_left, over_whole}
use borrow.Author.Rules.{rules}
use Rattle.symplectic.proofs.follow.Goals as goal

pub swap_halves-s-requires : goal.swap_halves-s-requires
swap_halves-s-requires c = omega (arith, capped_le c.args.n, c.capped.ensures)

pub loop-i-init : goal.loop-i-init
loop-i-init c = (search rules, refl, refl)

pub loop-i-preserved : goal.loop-i-preserved
loop-i-preserved c =
    let s = c.args in
    let at = c.loop-i in
    let n = capped s.n in
    let l = rows_in_lem s.w.now in
    let m = followed n l (val s.v) in
    let hl : at.i < length l = omega (arith, c.rows_in-count.ensures) in
    let hm : at.i < length m = omega (arith, followed_length n l (val s.v)) in
    let swapped = c.swap_halves-s.ensures ∙ ap (λ (k : ℕ). swap_halves_lem k (val s.v)) c.capped.ensures in
    let left = c.row-u.ensures ∙ over_left 0 m l (rows_in_lem at.w) at.i at.i at.invariant.2 (omega (arith, hm)) (le_refl at.i) in (
      search rules,
      search rules,
      c.put.ensures ∙ over_next m l (rows_in_lem at.w) at.i _ hm hl at.invariant.2
          (c.turned.ensures ∙ swap_turn n (val s.v) _ _ swapped ∙ ap (turn n (val s.v)) left ∙ sym (followed_at n l (val s.v) at.i hl)),
    )

pub returns : goal.returns
returns c =
    let s = c.args in
    let at = c.loop-i in
    let l = rows_in_lem s.w.now in
    let m = followed (capped s.n) l (val s.v) in
    at.invariant.2 ∙ over_whole 0 m l at.i (omega (arith, followed_length (capped s.n) l (val s.v), c.rows_in-count.ensures)) (omega (arith, c.rows_in-count.ensures))
