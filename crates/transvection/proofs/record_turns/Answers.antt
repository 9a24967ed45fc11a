-- `record_turns` takes one turn after another, by `record_step`, until none is left, by `record_done`, or there is room for no more.
use mathlib.Core.Path.{◌≡◌, sym, ap, ap₂, ◌∙◌}
use mathlib.Core.List.{List, ◌++◌}
use Prim.Native.Nat.{ℕ, ◌+◌, ◌-◌, ◌*◌, ◌<◌}
use native.Mathlib.Omega.{arith}
use lib.ListN.{length, take, length-set}
use Rattle.binar.specs.Rows.{val}
use Rattle.blocks.specs.Words.{rows_in_lem}
use Rattle.blocks.proofs.Values.{set_next}
use Rattle.symplectic.specs.Turns.{followed}
use Rattle.symplectic.proofs.Sizes.{capped_is}
use Rattle.symplectic.proofs.Products.{followed_length}
use Rattle.transvection.specs.Greedy.{recorded}
use Rattle.transvection.specs.inner.Searches.{chosen}
use Rattle.transvection.proofs.Records.{record_step, record_done, record_end}
use borrow.Author.Rules.{rules}
use Rattle.transvection.proofs.record_turns.Goals as goal
use Rattle.transvection.proofs.record_turns.Goals.{Start}

-- as many turns as the rule may take
limit_is : (c : goal.Start) → let s = c.args in recorded s.n (s.n * 4 + 2) (rows_in_lem s.w.now) ≡ recorded s.n (4 * s.n + 2) (rows_in_lem s.w.now)
limit_is c = let s = c.args in ap (λ (k : ℕ). recorded s.n k (rows_in_lem s.w.now)) (omega arith)

pub returns-in_default : goal.returns-in_default
returns-in_default c =
    let at = c.loop-i in
    let none_left = sym c.next_transvection.ensures ∙ ap chosen c.in_default.is in
    (omega arith, record_done _ _ _ _ _ at.invariant.taken none_left ∙ limit_is (goal.at.returns-in_default c).Start)

pub loop-i-preserved : goal.loop-i-preserved
loop-i-preserved c =
    let s = c.args in
    let at = c.loop-i in
    let n = s.n in
    let limit = n * 4 + 2 in
    let F = rows_in_lem at.w in
    let l = rows_in_lem at.kept in
    let v = c.in-Some.v in
    let h : at.i < length l = omega (arith, at.invariant.room, c.requires.2) in
    let taken = sym c.next_transvection.ensures ∙ ap chosen c.in-Some.is in
    let more = ap (take (at.i + 1)) c.put.ensures ∙ set_next l at.i (val v) h in
    let turned = c.follow.ensures ∙ ap (λ (k : ℕ). followed k F (val v)) (capped_is n c.requires.0) in record {
      whole = ap length turned ∙ followed_length n F (val v) ∙ at.invariant.whole;
      room = ap length c.put.ensures ∙ length-set l at.i (val v) ∙ at.invariant.room;
      taken =
          ap₂ (λ (vs G : List ℕ). vs ++ recorded n (limit - (at.i + 1)) G) more turned
          ∙ record_step n limit at.i F (take at.i l) (recorded n limit (rows_in_lem s.w.now)) (val v) (search rules) at.invariant.taken taken;
    }

pub returns : goal.returns
returns c =
    let s = c.args in
    let at = c.loop-i in
    let limit = s.n * 4 + 2 in
    let e : at.i ≡ limit = omega arith in
    (omega arith, ap (λ (k : ℕ). take k (rows_in_lem at.kept)) (sym e) ∙ record_end _ (limit - at.i) _ _ _ at.invariant.taken (omega arith) ∙ limit_is (goal.at.returns c).Start)
