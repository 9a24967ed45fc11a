-- `turnlist_minimal` answers as `clifford_to_transvections_minimal`, and leaves a refused call's numbers as they were, by `lent_drawn`.
use mathlib.Core.Path.{◌∙◌}
use Rattle.transvection_exact.specs.Answers.{figures_of_lem}
use Rattle.transvection_exact.specs.Minimal.{minimal_reply}
use Rattle.transvection_exact.proofs.Answered.{Promised}
use Rattle.transvection_exact.proofs.Replies.{minimal_refused}
use Rattle.cabi.proofs.Lent.{lent_drawn}
use Rattle.cabi.proofs.turnlist_minimal.Goals as goal

pub returns : goal.returns
returns c =
    let s = c.args in
    let answer = c.clifford_to_transvections_minimal-answer in
    let figures = c.figures_of-least in
    let counted = c.tell in
    let told = figures.ensures ∙ answer.ensures.answered in
    let told = lent_drawn s.budget (minimal_reply s.n s.rows.now s.budget s.out.now) (minimal_refused s.n s.rows.now s.budget s.out.now) figures.result told
    s.count.now counted.new.lent counted.ensures s.looks.now c.tell-2.new.lent c.tell-2.ensures
    (Promised s.n s.rows.now s.budget s.out.now) answer.new.out (figures_of_lem answer.result) figures.ensures (answer.ensures.answered, (answer.ensures.left, (answer.ensures.replays, (answer.ensures.shortest, (answer.ensures.exact, answer.ensures.every_layer))))) in record {
      answered = told.0;
      left = told.1.0;
      counted = told.1.1.0;
      drawn = told.1.1.1.0;
      replays = told.1.1.1.1.0;
      shortest = told.1.1.1.1.1.0;
      exact = told.1.1.1.1.1.1.0;
      every_layer = told.1.1.1.1.1.1.1;
    }
