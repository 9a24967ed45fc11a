-- `clifford_to_transvections` refuses by the first question that is answered no, by `listing_early` and `listing_short`; else the greedy list is laid,
-- by `listing_answer`.
use mathlib.Core.Path.{◌≡◌, sym, ap, ap₂, ◌∙◌}
use mathlib.Core.List.{List}
use Prim.Native.Nat.{ℕ, ◌≤◌}
use native.Mathlib.Omega.{arith}
use lib.ListN.{length}
use Rattle.std.proofs.lemmas.Result.{err_from_is_err_and}
use Rattle.blocks.specs.Words.{rows_of_words, laid}
use Rattle.symplectic.specs.Sizes.{max_qubits}
use Rattle.actions.specs.Actions.{qubits, matrix}
use Rattle.questions.specs.Answers.{number_of}
use Rattle.questions.specs.Replies.{action_questions_lem}
use Rattle.actions.proofs.Arrays.{loaded}
use Rattle.questions.proofs.Questions.{passed_size, passed_count}
use Rattle.questions.proofs.Listings.{listing_early, listing_short, listing_answer}
use Rattle.transvection.specs.Greedy.{greedy_list}
use Rattle.transvection.proofs.Replied.{greedy_call}
use Rattle.transvection.proofs.clifford_to_transvections.Goals as goal
use Rattle.transvection.proofs.clifford_to_transvections.Goals.{After-from_words, In_ok-action_questions}

-- every question of the action is passed
passed : (c : goal.In_ok-action_questions) → let s = c.args in action_questions_lem s.n (rows_of_words s.n s.rows.now) ≡ 0
passed c = sym c.action_questions.ensures ∙ ap number_of c.in_ok-action_questions.was

few : (c : goal.In_ok-action_questions) → c.args.n ≤ max_qubits
few c = let s = c.args in passed_size s.n (rows_of_words s.n s.rows.now) (passed c)

pub returns-in_err-action_questions : goal.returns-in_err-action_questions
returns-in_err-action_questions c =
    let s = c.args in
    let p = err_from_is_err_and c.from_residual.result c.from_residual.ensures.1 in
    let told = listing_early (greedy_call s.n s.rows.now s.out.now) c.in_err-action_questions.field-0.0 (sym (ap number_of c.in_err-action_questions.was) ∙ c.action_questions.ensures) in
    rw (p.1, p.2) record {
      answered = told.0;
      left = told.1.0;
      replays = told.1.1.0;
      few = told.1.1.1;
    }

pub overflow_mul-wanted : goal.overflow_mul-wanted
overflow_mul-wanted c = omega (arith, few (goal.at.overflow_mul-wanted c).In_ok-action_questions)

pub overflow_add-wanted : goal.overflow_add-wanted
overflow_add-wanted c = omega (arith, few (goal.at.overflow_add-wanted c).In_ok-action_questions)

pub returns-then-out-wanted : goal.returns-then-out-wanted
returns-then-out-wanted c =
    let s = c.args in
    let told = listing_short (greedy_call s.n s.rows.now s.out.now) (passed (goal.at.returns-then-out-wanted c).In_ok-action_questions) (omega arith) in record {
      answered = told.0;
      left = told.1.0;
      replays = told.1.1.0;
      few = told.1.1.1;
    }

-- what was loaded is the lent action
same : (c : goal.After-from_words) → let s = c.args in (qubits c.from_words.result ≡ s.n) × (matrix c.from_words.result ≡ rows_of_words s.n s.rows.now)
same c =
    let s = c.args in
    let F = rows_of_words s.n s.rows.now in
    let at = (goal.at.After-from_words c).In_ok-action_questions in
    loaded c.from_words.result s.n F (few at) (passed_count s.n F (passed at)) c.from_words.ensures.0 c.from_words.ensures.1

pub lay_list-requires : goal.lay_list-requires
lay_list-requires c = omega (arith, (same (goal.at.lay_list-requires c).After-from_words).0)

pub returns : goal.returns
returns c =
    let s = c.args in
    let t = c.lay_list in
    let e = same (goal.at.returns c).After-from_words in
    let told = listing_answer (greedy_call s.n s.rows.now s.out.now) (passed (goal.at.returns c).In_ok-action_questions) (omega arith) t.result t.new.out
    (t.ensures.0 ∙ ap₂ (λ (m : ℕ) (F : List ℕ). length (greedy_list m F)) e.0 e.1) (t.ensures.1 ∙ ap₂ (λ (m : ℕ) (F : List ℕ). laid m (greedy_list m F) s.out.now) e.0 e.1) in record {
      answered = told.0;
      left = told.1.0;
      replays = told.1.1.0;
      few = told.1.1.1;
    }
