-- `turnlist_shorter` answers as `choose`, and leaves a refused call's number as it was, by `lent_shorter`.
use Rattle.cabi.proofs.Lent.{lent_shorter}
use Rattle.cabi.proofs.turnlist_shorter.Goals as goal

pub returns : goal.returns
returns c =
    let s = c.args in
    let chosen = c.chosen_of-shorter in
    let told = lent_shorter s.n s.rows.now s.first.now s.second.now chosen.result _ chosen.ensures s.chosen.now c.tell.new.lent c.tell.ensures c.choose-answer.ensures in record {
      answered = told.0;
      told = told.1.0;
      played = told.1.1.0;
      neither_shorter = told.1.1.1.0;
      first_at_equal = told.1.1.1.1.0;
      neither = told.1.1.1.1.1;
    }
