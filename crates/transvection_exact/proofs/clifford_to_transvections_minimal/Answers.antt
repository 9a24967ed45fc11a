-- `clifford_to_transvections_minimal` lends no memory, so by the clause `plainly` it replies as document 01 says; the rest is what holds of that reply, by `minimal_shortest`.
use native.Mathlib.Omega.{arith}
use Rattle.questions.proofs.Answered.{meets}
use Rattle.transvection_exact.specs.Minimal.{minimal_reply}
use Rattle.transvection_exact.specs.Answers.{figures_of_lem}
use Rattle.transvection_exact.proofs.Answered.{Promised, minimal_shortest}
use Rattle.transvection_exact.proofs.clifford_to_transvections_minimal.Goals as goal

pub returns : goal.returns
returns c =
    let s = c.args in
    let e = c.clifford_to_transvections_minimal_remembering in
    let p = e.ensures.plainly (omega arith) in
    let told = meets (Promised s.n s.rows.now s.budget s.out.now) (minimal_reply s.n s.rows.now s.budget s.out.now) (minimal_shortest s.n s.rows.now s.budget s.out.now)
    e.new.out (figures_of_lem e.result) p.0 p.1.0 in record {
      answered = told.0;
      left = told.1.0;
      replays = told.1.1.0;
      shortest = told.1.1.1.0;
      exact = told.1.1.1.1.0;
      every_layer = told.1.1.1.1.1;
    }
