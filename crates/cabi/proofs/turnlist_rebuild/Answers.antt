-- `turnlist_rebuild` answers as `rebuild`, and leaves a refused call's numbers as they were, by `lent_counted`.
use native.Mathlib.Omega.{arith}
use Rattle.blocks.specs.Words.{rows_of_words}
use Rattle.questions.specs.Replies.{Rebuilds}
use Rattle.rebuild.specs.Rebuilds.{rebuild_reply}
use Rattle.cabi.proofs.Lent.{lent_counted}
use Rattle.cabi.proofs.turnlist_rebuild.Goals as goal

pub returns : goal.returns
returns c =
    let s = c.args in
    let answer = c.rebuild-answer in
    let figures = c.figures_of-product in
    let told = lent_counted (Rebuilds s.n (rows_of_words s.n s.vectors.now)) (rebuild_reply s.n s.vectors.now s.out.now) answer.new.out figures.result _ figures.ensures s.count.now c.tell.new.lent c.tell.ensures (answer.ensures.answered, (answer.ensures.left, answer.ensures.replays)) (λ k looks. λ z. absurd (omega arith)) in record {
      answered = told.0;
      left = told.1.0;
      counted = told.1.1.0;
      replays = told.1.1.1;
    }
