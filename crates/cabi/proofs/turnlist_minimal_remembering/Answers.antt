-- `turnlist_minimal_remembering` answers as the call with a memory, and leaves a refused call's numbers as they were, by `lent_remembering`.
use Rattle.transvection_exact.specs.Answers.{figures_of_lem}
use Rattle.cabi.proofs.Lent.{lent_remembering}
use Rattle.cabi.proofs.turnlist_minimal_remembering.Goals as goal

pub returns : goal.returns
returns c =
    let s = c.args in
    let answer = c.clifford_to_transvections_minimal_remembering-answer in
    let figures = c.figures_of-remembered in
    let counted = c.tell in
    let told = lent_remembering s.n s.rows.now s.budget s.memory.now s.out.now answer.new.memory answer.new.out figures.result (figures_of_lem answer.result) figures.ensures
    s.count.now counted.new.lent counted.ensures s.looks.now c.tell-2.new.lent c.tell-2.ensures (answer.ensures.answered, (answer.ensures.left, (answer.ensures.remembered, (answer.ensures.replays, (answer.ensures.shortest, (answer.ensures.exact, (answer.ensures.as_without, (answer.ensures.every_layer, answer.ensures.plainly)))))))) in record {
      answered = told.0;
      left = told.1.0;
      held = told.1.1.0;
      counted = told.1.1.1.0;
      drawn = told.1.1.1.1.0;
      replays = told.1.1.1.1.1.0;
      shortest = told.1.1.1.1.1.1.0;
      exact = told.1.1.1.1.1.1.1.0;
      as_without = told.1.1.1.1.1.1.1.1.0;
      every_layer = told.1.1.1.1.1.1.1.1.1.0;
      plainly = told.1.1.1.1.1.1.1.1.1.1;
    }
