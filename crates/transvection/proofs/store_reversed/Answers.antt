-- `store_reversed` lays the turns from the last to the first, one by one, by `back_at`, `laid_next` and `laid_end`.
use mathlib.Core.Path.{refl, ◌∙◌}
use mathlib.Core.List.{reverse}
use Prim.Native.Nat.{◌<◌}
use native.Mathlib.Omega.{arith}
use lib.ListN.{take, length-set}
use Rattle.blocks.specs.Words.{rows_in_lem}
use Rattle.blocks.proofs.Values.{laid_next, laid_end}
use Rattle.transvection.proofs.Kept.{back_length, back_at}
use borrow.Author.Rules.{rules}
use Rattle.transvection.proofs.store_reversed.Goals as goal

pub loop-k-init : goal.loop-k-init
loop-k-init c = (search rules, refl, refl)

pub loop-k-preserved : goal.loop-k-preserved
loop-k-preserved c =
    let s = c.args in
    let at = c.loop-k in
    let l = rows_in_lem s.kept.now in
    let fits = c.requires.0 in
    let h : at.k < s.count = search rules in (
      search rules,
      simp length-set at.invariant.1,
      laid_next s.n (reverse (take s.count l)) s.out.now at.out at.k _ _ (omega (arith, back_length l s.count fits)) (omega arith) at.invariant.2 c.word.ensures
          (c.row-u.ensures ∙ back_at l s.count fits at.k h),
    )

pub returns : goal.returns
returns c =
    let s = c.args in
    let l = rows_in_lem s.kept.now in
    c.loop-k.invariant.2 ∙ laid_end s.n (reverse (take s.count l)) s.out.now c.loop-k.k (omega (arith, back_length l s.count c.requires.0))
