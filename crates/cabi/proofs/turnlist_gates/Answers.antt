-- `turnlist_gates` answers as `gate_action`, and leaves a refused call's numbers as they were, by `lent_counted`.
use native.Mathlib.Omega.{arith}
use Rattle.questions.specs.Replies.{Rebuilds}
use Rattle.sheets.specs.Sheets.{gates_of}
use Rattle.gates.specs.Sequences.{sequence_turns, gates_reply}
use Rattle.cabi.proofs.Lent.{lent_counted}
use Rattle.cabi.proofs.turnlist_gates.Goals as goal

pub returns : goal.returns
returns c =
    let s = c.args in
    let answer = c.gate_action-answer in
    let figures = c.figures_of-action in
    let told = lent_counted (Rebuilds s.n (sequence_turns s.n (gates_of s.sheet.now) s.gates.now)) (gates_reply s.n s.sheet.now s.gates.now s.out.now) answer.new.out figures.result _ figures.ensures s.count.now c.tell.new.lent c.tell.ensures (answer.ensures.answered, (answer.ensures.left, answer.ensures.replays)) (λ k looks. λ z. absurd (omega arith)) in record {
      answered = told.0;
      left = told.1.0;
      counted = told.1.1.0;
      replays = told.1.1.1;
    }
