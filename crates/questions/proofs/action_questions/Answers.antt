-- `action_questions` answers the first question that is answered no, by the laws of each question.
use mathlib.Core.Path.{◌≡◌, sym, ◌∙◌}
use Prim.Native.Nat.{◌+◌}
use native.Mathlib.Omega.{arith}
use lib.ListN.{length}
use Rattle.blocks.specs.Words.{rows_of_words}
use Rattle.blocks.proofs.Values.{rows_count}
use Rattle.symplectic.specs.Turns.{symplectic}
use Rattle.symplectic.specs.Matches.{fit_all}
use Rattle.questions.proofs.Questions.{test_capped, fit_capped, question_1, question_2, question_3, question_4, questions_passed}
use borrow.Author.Rules.{rules}
use Rattle.questions.proofs.action_questions.Goals as goal
use Rattle.questions.proofs.action_questions.Goals.{After-is_symplectic, After-words_fit, Else-words-m}

-- exactly 2n rows are lent
size : (c : goal.Else-words-m) → let s = c.args in length (rows_of_words s.n s.words.now) ≡ s.n + s.n
size c = let s = c.args in rows_count s.n s.words.now ∙ omega arith

-- the code's tests are those of the questions
fit : (c : goal.After-words_fit) → let s = c.args in fit_all (s.n + s.n) (rows_of_words s.n s.words.now) ≡ c.words_fit.result
fit c =
    let s = c.args in
    sym (c.words_fit.ensures ∙ fit_capped s.n (rows_of_words s.n s.words.now) (search rules))

test : (c : goal.After-is_symplectic) → let s = c.args in symplectic s.n (rows_of_words s.n s.words.now) ≡ c.is_symplectic.result
test c =
    let s = c.args in
    sym (c.is_symplectic.ensures ∙ test_capped s.n (rows_of_words s.n s.words.now) (search rules))

pub returns-then-n-gt-MAX_QUBITS : goal.returns-then-n-gt-MAX_QUBITS
returns-then-n-gt-MAX_QUBITS c = let s = c.args in sym (question_1 s.n (rows_of_words s.n s.words.now) (search rules))

pub returns-then-words-m : goal.returns-then-words-m
returns-then-words-m c =
    let s = c.args in
    sym (question_2 s.n (rows_of_words s.n s.words.now) (search rules) (λ e. c.if-words-m.true (sym (rows_count s.n s.words.now) ∙ e)))

pub returns-then-not-words_fit : goal.returns-then-not-words_fit
returns-then-not-words_fit c =
    let s = c.args in
    sym (question_3 s.n (rows_of_words s.n s.words.now) (search rules) (size (goal.at.returns-then-not-words_fit c).Else-words-m) (fit (goal.at.returns-then-not-words_fit c).After-words_fit ∙ c.if-not-words_fit.true))

pub returns-then-not-is_symplectic : goal.returns-then-not-is_symplectic
returns-then-not-is_symplectic c =
    let s = c.args in
    sym (question_4 s.n (rows_of_words s.n s.words.now) (search rules) (size (goal.at.returns-then-not-is_symplectic c).Else-words-m) (fit (goal.at.returns-then-not-is_symplectic c).After-words_fit ∙ c.if-not-words_fit.false)
    (test (goal.at.returns-then-not-is_symplectic c).After-is_symplectic ∙ c.if-not-is_symplectic.true))

pub returns : goal.returns
returns c =
    let s = c.args in
    sym (questions_passed s.n (rows_of_words s.n s.words.now) (search rules) (size (goal.at.returns c).Else-words-m) (fit (goal.at.returns c).After-words_fit ∙ c.if-not-words_fit.false)
    (test (goal.at.returns c).After-is_symplectic ∙ c.if-not-is_symplectic.false))
