-- `lay` lays the rows one by one, by `laid_next` and `laid_end`.
use mathlib.Core.Path.{refl, ◌∙◌}
use Prim.Native.Nat.{◌<◌}
use lib.ListN.{length, length-set}
use Rattle.blocks.proofs.Values.{laid_next, laid_end}
use Rattle.blocks.specs.Words.{rows_in_lem}
use native.Mathlib.Omega.{arith}
use borrow.Author.Rules.{rules}
use Rattle.matrices.proofs.lay.Goals as goal

pub loop-i-init : goal.loop-i-init
loop-i-init c = (search rules, refl, refl)

pub loop-i-preserved : goal.loop-i-preserved
loop-i-preserved c =
    let s = c.args in
    let at = c.loop-i in
    let rows = rows_in_lem s.w.now in
    let k = c.min-k.ensures in
    let h : at.i < length rows = omega (arith, k, c.rows_in.ensures) in
    let g : at.i < length s.out.now = omega (arith, k) in (
      search rules,
      simp length-set at.invariant.1,
      laid_next s.n rows s.out.now at.out at.i c.word.result _ h g at.invariant.2 c.word.ensures c.row.ensures,
    )

pub returns : goal.returns
returns c =
    let s = c.args in
    c.loop-i.invariant.2
    ∙ laid_end s.n (rows_in_lem s.w.now) s.out.now c.loop-i.i (omega (arith, c.min-k.ensures, c.rows_in.ensures))
