-- `shorter_list` gives the list that `choose` names, or nothing of the first, by `reply_part`.
use mathlib.Core.Path.{◌≡◌, sym, ap, ◌∙◌}
use mathlib.Core.List.{[]}
use Prim.Native.Nat.{ℕ, ◌+◌}
use native.Mathlib.Omega.{arith}
use borrow.Author.Rules.{rules}
use Rattle.std.specs.Prelude.{Ok, Err}
use Rattle.shorter.specs.declared.Choice.TheVariants.{First, Second}
use Rattle.shorter.specs.Answers.{chosen_of}
use Rattle.shorter.proofs.Promised.{part_first, part_second, part_none, place_first, place_second, reply_part}
use Rattle.shorter.proofs.shorter_list.Goals as goal

pub returns-in-Ok-First : goal.returns-in-Ok-First
returns-in-Ok-First c =
    let s = c.args in
    let t = chosen_of c.choose-choice.result in
    let is : c.choose-choice.result ≡ Ok First = search rules in
    let list : t.list ≡ 1 = ap (λ r. (chosen_of r).list) is in
    let told = reply_part s.n s.rows.now s.first.now s.second.now t c.choose-choice.ensures s.first.ref_ptr s.second.ref_ptr s.first.ref_ptr s.first.now
    (part_first s.first.now s.second.now t.list list) (place_first s.first.ref_ptr s.second.ref_ptr t.list (λ e. omega (arith, e, list))) in record {
      part = told.0;
      place = told.1.0;
      told = c.choose-choice.ensures;
      played = told.1.1.1.0;
      neither_shorter = told.1.1.1.1.0;
      first_at_equal = told.1.1.1.1.1.0;
      neither = told.1.1.1.1.1.1;
    }

pub returns-in-Ok-Second : goal.returns-in-Ok-Second
returns-in-Ok-Second c =
    let s = c.args in
    let t = chosen_of c.choose-choice.result in
    let is : c.choose-choice.result ≡ Ok Second = search rules in
    let list : t.list ≡ 2 = ap (λ r. (chosen_of r).list) is in
    let told = reply_part s.n s.rows.now s.first.now s.second.now t c.choose-choice.ensures s.first.ref_ptr s.second.ref_ptr s.second.ref_ptr s.second.now
    (part_second s.first.now s.second.now t.list list) (place_second s.first.ref_ptr s.second.ref_ptr t.list list) in record {
      part = told.0;
      place = told.1.0;
      told = c.choose-choice.ensures;
      played = told.1.1.1.0;
      neither_shorter = told.1.1.1.1.0;
      first_at_equal = told.1.1.1.1.1.0;
      neither = told.1.1.1.1.1.1;
    }

-- an empty part from the start stands at the start
at_start : (o : ℕ) → 0 + o ≡ o
at_start o = omega arith

pub returns-in-Err : goal.returns-in-Err
returns-in-Err c =
    let s = c.args in
    let is : c.choose-choice.result ≡ Err c.in-Err.e = c.in-Err.is in
    let same = sym (ap chosen_of is) ∙ c.choose-choice.ensures in
    let told = reply_part s.n s.rows.now s.first.now s.second.now (chosen_of (Err c.in-Err.e)) same s.first.ref_ptr s.second.ref_ptr (s.first.ref_ptr.0, 0 + s.first.ref_ptr.1) []
    (part_none s.first.now s.second.now 0 (λ e. absurd (omega (arith, e))) (λ e. absurd (omega (arith, e))))
    (ap (λ (o : ℕ). (s.first.ref_ptr.0, o)) (at_start s.first.ref_ptr.1) ∙ place_first s.first.ref_ptr s.second.ref_ptr 0 (λ e. absurd (omega (arith, e)))) in record {
      part = told.0;
      place = told.1.0;
      told = same;
      played = told.1.1.1.0;
      neither_shorter = told.1.1.1.1.0;
      first_at_equal = told.1.1.1.1.1.0;
      neither = told.1.1.1.1.1.1;
    }
