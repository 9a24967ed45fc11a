-- `multiply` lays the rows of the product one by one, by `laid_next` and `laid_end`.
use mathlib.Core.Path.{refl, sym, ap, ◌∙◌}
use Prim.Native.Nat.{ℕ, ◌<◌}
use lib.ListN.{length, length-set}
use Rattle.blocks.proofs.Products.{matmul_length, row_times}
use Rattle.blocks.proofs.Values.{laid_next, laid_end}
use Rattle.blocks.specs.Matrices.{times, matmul}
use Rattle.blocks.specs.Words.{rows_in_lem}
use native.Mathlib.Omega.{arith}
use borrow.Author.Rules.{rules}
use Rattle.matrices.proofs.multiply.Goals as goal

pub loop-i-init : goal.loop-i-init
loop-i-init c = (search rules, refl, refl)

pub loop-i-preserved : goal.loop-i-preserved
loop-i-preserved c =
    let s = c.args in
    let at = c.loop-i in
    let A = rows_in_lem s.a.now in
    let B = rows_in_lem s.b.now in
    let h : at.i < length A = omega (arith, c.min-k.ensures, c.rows_in.ensures) in
    let g : at.i < length s.out.now = omega (arith, c.min-k.ensures) in (
      search rules,
      simp length-set at.invariant.1,
      laid_next s.n (matmul A B) s.out.now at.out at.i c.word.result _ (omega (arith, matmul_length A B)) g at.invariant.2 c.word.ensures
          (c.times.ensures ∙ ap (λ (v : ℕ). times v B) c.row.ensures ∙ sym (row_times A B at.i)),
    )

pub returns : goal.returns
returns c =
    let s = c.args in
    let A = rows_in_lem s.a.now in
    let B = rows_in_lem s.b.now in
    c.loop-i.invariant.2 ∙ laid_end s.n (matmul A B) s.out.now c.loop-i.i (omega (arith, c.min-k.ensures, c.rows_in.ensures, matmul_length A B))
