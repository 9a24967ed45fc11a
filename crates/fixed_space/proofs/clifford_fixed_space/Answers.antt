-- `clifford_fixed_space` refuses by the first question that is answered no, by `listing_early` and `listing_short`; else it lays the basis of the action
-- that it has read, by `listing_answer`.
use mathlib.Core.Path.{◌≡◌, sym, ap, ap₂, ◌∙◌}
use mathlib.Core.List.{List}
use Prim.Native.Nat.{ℕ, ◌≤◌}
use native.Mathlib.Omega.{arith}
use lib.ListN.{length}
use Rattle.std.proofs.lemmas.Result.{err_from_is_err_and}
use Rattle.questions.specs.Answers.{number_of}
use Rattle.blocks.specs.Words.{rows_of_words, laid}
use Rattle.symplectic.specs.Sizes.{max_qubits}
use Rattle.questions.specs.Replies.{action_questions_lem}
use Rattle.actions.specs.Actions.{qubits, matrix}
use Rattle.actions.proofs.Arrays.{loaded}
use Rattle.questions.proofs.Questions.{passed_size, passed_count}
use Rattle.questions.proofs.Listings.{listing_early, listing_short, listing_answer}
use Rattle.fixed_space.specs.FixedSpace.{fixed_space_lem}
use Rattle.fixed_space.proofs.Replied.{fixed_call}
use Rattle.fixed_space.proofs.clifford_fixed_space.Goals as goal
use Rattle.fixed_space.proofs.clifford_fixed_space.Goals.{After-from_words, In_ok-action_questions}

-- every question of the action is passed
passed : (c : goal.In_ok-action_questions) → let s = c.args in action_questions_lem s.n (rows_of_words s.n s.rows.now) ≡ 0
passed c = sym c.action_questions.ensures ∙ ap number_of c.in_ok-action_questions.was

few : (c : goal.In_ok-action_questions) → c.args.n ≤ max_qubits
few c = let s = c.args in passed_size s.n (rows_of_words s.n s.rows.now) (passed c)

-- the action that was read is the one that the words hold
same : (c : goal.After-from_words) → let s = c.args in let F = rows_of_words s.n s.rows.now in (qubits c.from_words.result ≡ s.n) × (matrix c.from_words.result ≡ F)
same c =
    let s = c.args in
    let F = rows_of_words s.n s.rows.now in
    let e = c.from_words.ensures in
    loaded c.from_words.result s.n F (few (goal.at.After-from_words c).In_ok-action_questions) (passed_count s.n F (passed (goal.at.After-from_words c).In_ok-action_questions)) e.0 e.1

pub returns-in_err-action_questions : goal.returns-in_err-action_questions
returns-in_err-action_questions c =
    let s = c.args in
    let p = err_from_is_err_and c.from_residual.result c.from_residual.ensures.1 in
    let told = listing_early (fixed_call s.n s.rows.now s.out.now) c.in_err-action_questions.field-0.0 (sym (ap number_of c.in_err-action_questions.was) ∙ c.action_questions.ensures) in
    rw (p.1, p.2) record {
      answered = told.0;
      left = told.1.0;
      in_place = told.1.1.0;
      complete = told.1.1.1.0;
      reduced = told.1.1.1.1.0;
      dimension = told.1.1.1.1.1;
    }

pub overflow_add-wanted : goal.overflow_add-wanted
overflow_add-wanted c = omega (arith, few (goal.at.overflow_add-wanted c).In_ok-action_questions)

pub returns-then-out-wanted : goal.returns-then-out-wanted
returns-then-out-wanted c =
    let s = c.args in
    let told = listing_short (fixed_call s.n s.rows.now s.out.now) (passed (goal.at.returns-then-out-wanted c).In_ok-action_questions) (omega arith) in record {
      answered = told.0;
      left = told.1.0;
      in_place = told.1.1.0;
      complete = told.1.1.1.0;
      reduced = told.1.1.1.1.0;
      dimension = told.1.1.1.1.1;
    }

pub returns : goal.returns
returns c =
    let s = c.args in
    let e = same (goal.at.returns c).After-from_words in
    let o = c.fixed_space in
    let is = ap₂ (λ (m : ℕ) (G : List ℕ). fixed_space_lem m G) e.0 e.1 in
    let told = listing_answer (fixed_call s.n s.rows.now s.out.now) (passed (goal.at.returns c).In_ok-action_questions) (omega arith) o.result o.new.out
    (o.ensures.counted ∙ ap length is) (o.ensures.laid ∙ ap₂ (λ (m : ℕ) (l : List ℕ). laid m l s.out.now) e.0 is) in record {
      answered = told.0;
      left = told.1.0;
      in_place = told.1.1.0;
      complete = told.1.1.1.0;
      reduced = told.1.1.1.1.0;
      dimension = told.1.1.1.1.1;
    }
