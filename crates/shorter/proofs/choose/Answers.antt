-- `choose` refuses by the first question of the action that is answered no; else it gives the choice of `shorter_of`.
use mathlib.Core.Path.{◌≡◌, sym, ap, ap₂, ◌∙◌}
use mathlib.Core.List.{List}
use Prim.Native.Nat.{ℕ}
use Rattle.std.proofs.lemmas.Result.{err_from_is_err_and}
use Rattle.blocks.specs.Words.{rows_of_words}
use Rattle.questions.specs.Answers.{number_of}
use Rattle.questions.specs.Replies.{action_questions_lem}
use Rattle.symplectic.proofs.Sizes.{capped_is}
use Rattle.actions.proofs.Arrays.{loaded}
use Rattle.questions.proofs.Questions.{passed_size, passed_count}
use Rattle.shorter.specs.Shorter.{shorter_of_lem}
use Rattle.shorter.proofs.Choices.{reply_asked, reply_early}
use Rattle.shorter.proofs.choose.Goals as goal

pub returns-in_err-action_questions : goal.returns-in_err-action_questions
returns-in_err-action_questions c =
    let s = c.args in
    let p = err_from_is_err_and c.from_residual.result c.from_residual.ensures.1 in
    rw (p.1, p.2) (reply_early s.n s.rows.now s.first.now s.second.now _ (sym (ap number_of c.in_err-action_questions.was) ∙ c.action_questions.ensures))

pub returns : goal.returns
returns c =
    let s = c.args in
    let F = rows_of_words s.n s.rows.now in
    let passed : action_questions_lem s.n F ≡ 0 = sym c.action_questions.ensures ∙ ap number_of c.in_ok-action_questions.was in
    let size = passed_size s.n F passed in
    let l = c.from_words in
    let same = loaded l.result s.n F size (passed_count s.n F passed) l.ensures.0 l.ensures.1 in
    c.shorter_of.ensures
    ∙ ap₂ (λ (k : ℕ) (G : List ℕ). shorter_of_lem k G (rows_of_words s.n s.first.now) (rows_of_words s.n s.second.now)) (capped_is s.n size) same.1
    ∙ reply_asked s.n s.rows.now s.first.now s.second.now 0 passed
