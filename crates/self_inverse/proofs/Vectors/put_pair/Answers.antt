-- `put_pair` puts three vectors where the last one stood, by `pair_last`.
use mathlib.Core.Path.{◌≡◌, sym, ap, ◌∙◌}
use mathlib.Core.List.{◌++◌}
use Prim.Native.Nat.{ℕ, ◌-◌}
use native.Mathlib.Omega.{arith}
use lib.ListN.{length, take, get_or, length-append}
use Rattle.binar.specs.Rows.{val}
use Rattle.blocks.specs.Words.{rows_in_lem}
use Rattle.self_inverse.specs.inner.Peels.{three, with_pair}
use Rattle.self_inverse.proofs.Outers.{pair_last}
use Rattle.self_inverse.proofs.Lists.{take_last}
use borrow.Author.Rules.{rules}
use Rattle.self_inverse.proofs.Vectors.put_pair.Goals as goal
use Rattle.self_inverse.proofs.Vectors.put_pair.Goals.{Else-self-eq0}

-- where the list has a last vector
last : (c : goal.Else-self-eq0)
    → let s = c.args in let k = c.self.inside.count - 1 in let l = rows_in_lem c.self.inside.words in
    with_pair (val s.f) (val s.s) s.self.now ≡ take k l ++ three (val s.f) (val s.s) (get_or l k 0)
last c =
    let s = c.args in
    let i = c.self.inside in
    let l = rows_in_lem i.words in
    ap (with_pair (val s.f) (val s.s)) (sym c.self.view_is ∙ take_last l i.count (search (rules, c.if-self-eq0.false)) (omega (arith, c.self.invariant.0, c.self.invariant.1)))
    ∙ pair_last (val s.f) (val s.s) (take (i.count - 1) l) (get_or l (i.count - 1) 0)

pub put_three-requires-2 : goal.put_three-requires-2
put_three-requires-2 c =
    let s = c.args in
    let k = c.self.inside.count - 1 in
    let l = rows_in_lem c.self.inside.words in
    omega (arith, c.requires, ap length (last (goal.at.put_three-requires-2 c).Else-self-eq0), length-append (take k l) (three (val s.f) (val s.s) (get_or l k 0)))

pub returns : goal.returns
returns c =
    let s = c.args in
    let k = c.self.inside.count - 1 in
    c.put_three-2.ensures ∙ ap (λ (v : ℕ). take k (rows_in_lem c.self.inside.words) ++ three (val s.f) (val s.s) v) c.row-p.ensures
    ∙ sym (last (goal.at.returns c).Else-self-eq0)
