-- `product_in` makes the turns of the vectors in order, by `product_more`, from the identity.
use mathlib.Core.Path.{sym, ap, ◌∙◌}
use Prim.Native.Nat.{◌+◌, ◌<◌}
use native.Mathlib.Omega.{arith}
use lib.ListN.{length}
use lib.Seq.{take_all}
use Rattle.binar.specs.Rows.{val}
use Rattle.blocks.specs.Words.{rows_of_words, rows_in_lem}
use Rattle.blocks.proofs.Values.{rows_count, rows_word}
use Rattle.symplectic.specs.Sizes.{capped}
use Rattle.actions.specs.Actions.{padded}
use Rattle.symplectic.specs.Turns.{product}
use Rattle.actions.proofs.Arrays.{padded_is}
use Rattle.symplectic.proofs.Products.{product_nil, product_more, product_length}
use Rattle.symplectic.proofs.Work.{identity_whole}
use borrow.Author.Rules.{rules}
use Rattle.rebuild.proofs.product_in.Goals as goal

pub loop-v-init : goal.loop-v-init
loop-v-init c =
    let s = c.args in
    (search rules, c.put_identity.ensures ∙ identity_whole (capped s.n) (rows_in_lem s.w.now) c.requires ∙ sym (product_nil (capped s.n)))

pub loop-v-preserved : goal.loop-v-preserved
loop-v-preserved c =
    let s = c.args in
    let at = c.loop-v in
    let v = c.from in
    let vs = rows_of_words s.n s.list.now in
    let h : at.v-index < length vs = omega (arith, rows_count s.n s.list.now) in (
      search rules,
      product_more (capped s.n) vs at.v-index h (rows_in_lem at.w) (rows_in_lem c.follow.new.w) (val v.result) at.invariant.1 (v.ensures ∙ sym (rows_word s.n s.list.now at.v-index))
          c.follow.ensures,
    )

pub returns : goal.returns
returns c =
    let s = c.args in
    let at = c.loop-v in
    let q = capped s.n in
    let vs = rows_of_words s.n s.list.now in
    let all = at.invariant.1 ∙ ap (product q) (take_all at.v-index vs (omega (arith, rows_count s.n s.list.now))) in
    (c.from_rows.ensures.0, c.from_rows.ensures.1 ∙ ap (padded (q + q)) all ∙ padded_is (q + q) (product q vs) (product_length q vs))
