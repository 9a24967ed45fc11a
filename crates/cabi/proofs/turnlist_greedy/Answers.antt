-- `turnlist_greedy` answers as `clifford_to_transvections`, and leaves a refused call's numbers as they were, by `lent_counted`.
use native.Mathlib.Omega.{arith}
use Rattle.transvection.specs.Greedy.{greedy_reply}
use Rattle.transvection.proofs.Replied.{Promised}
use Rattle.cabi.proofs.Lent.{lent_counted}
use Rattle.cabi.proofs.turnlist_greedy.Goals as goal

pub returns : goal.returns
returns c =
    let s = c.args in
    let answer = c.clifford_to_transvections-answer in
    let figures = c.figures_of-greedy in
    let told = lent_counted (Promised s.n s.rows.now s.out.now) (greedy_reply s.n s.rows.now s.out.now) answer.new.out figures.result _ figures.ensures s.count.now c.tell.new.lent c.tell.ensures (answer.ensures.answered, (answer.ensures.left, (answer.ensures.replays, answer.ensures.few))) (λ k looks. (λ z. absurd (omega arith), omega arith)) in record {
      answered = told.0;
      left = told.1.0;
      counted = told.1.1.0;
      replays = told.1.1.1.0;
      few = told.1.1.1.1;
    }
