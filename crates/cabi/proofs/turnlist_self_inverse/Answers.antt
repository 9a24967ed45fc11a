-- `turnlist_self_inverse` answers as `clifford_to_transvections_self_inverse`, and leaves a refused call's number as it was, by `lent_self_inverse`.
use Rattle.cabi.proofs.Lent.{lent_self_inverse}
use Rattle.cabi.proofs.turnlist_self_inverse.Goals as goal

pub returns : goal.returns
returns c =
    let s = c.args in
    let answer = c.clifford_to_transvections_self_inverse-answer in
    let figures = c.figures_of-listed in
    let told = lent_self_inverse s.n s.rows.now s.out.now answer.new.out figures.result _ figures.ensures s.count.now c.tell.new.lent c.tell.ensures (answer.ensures.answered, (answer.ensures.left, (answer.ensures.replays, (answer.ensures.shortest, (answer.ensures.commuting, (answer.ensures.counted, answer.ensures.seventeen)))))) in record {
      answered = told.0;
      left = told.1.0;
      counted = told.1.1.0;
      replays = told.1.1.1.0;
      shortest = told.1.1.1.1.0;
      commuting = told.1.1.1.1.1.0;
      ranked = told.1.1.1.1.1.1.0;
      seventeen = told.1.1.1.1.1.1.1;
    }
