-- `turnlist_fixed_space` answers as `clifford_fixed_space`, and leaves a refused call's numbers as they were, by `lent_counted`.
use native.Mathlib.Omega.{arith}
use Rattle.fixed_space.specs.FixedSpace.{fixed_reply}
use Rattle.fixed_space.proofs.Replied.{Promised}
use Rattle.cabi.proofs.Lent.{lent_counted}
use Rattle.cabi.proofs.turnlist_fixed_space.Goals as goal

pub returns : goal.returns
returns c =
    let s = c.args in
    let answer = c.clifford_fixed_space-answer in
    let figures = c.figures_of-fixed in
    let told = lent_counted (Promised s.n s.rows.now s.out.now) (fixed_reply s.n s.rows.now s.out.now) answer.new.out figures.result _ figures.ensures s.count.now c.tell.new.lent c.tell.ensures (answer.ensures.answered, (answer.ensures.left, (answer.ensures.in_place, (answer.ensures.complete, (answer.ensures.reduced, answer.ensures.dimension))))) (λ k looks. (λ z. absurd (omega arith), (λ z. absurd (omega arith), (λ z. absurd (omega arith), λ z. absurd (omega arith))))) in record {
      answered = told.0;
      left = told.1.0;
      counted = told.1.1.0;
      in_place = told.1.1.1.0;
      complete = told.1.1.1.1.0;
      reduced = told.1.1.1.1.1.0;
      dimension = told.1.1.1.1.1.1;
    }
