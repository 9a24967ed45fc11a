-- `clifford_to_transvections_minimal_remembering` refuses by the first question that is answered no, by `remembering_early` and `remembering_refused`; else it answers what `searched` does, by `remembering_searched`.
use mathlib.Core.Path.{◌≡◌, refl, sym, ap, ap₂, ◌∙◌}
use mathlib.Core.List.{List}
use Prim.Native.Nat.{ℕ, ◌+◌, ◌≤◌}
use native.Mathlib.Omega.{arith}
use lib.ListN.{length}
use Rattle.blocks.specs.Words.{rows_of_words, over}
use Rattle.std.specs.Prelude.{Err}
use Rattle.std.proofs.lemmas.Result.{err_from_is_err_and}
use Rattle.questions.specs.declared.ListingError.TheVariants.{Action, OutputTooShort}
use Rattle.questions.proofs.Listings.{refused_number}
use Rattle.symplectic.specs.Sizes.{max_qubits}
use Rattle.questions.specs.Answers.{number_of}
use Rattle.questions.specs.Replies.{Reply, nothing_listed_lem, action_questions_lem}
use Rattle.actions.specs.Actions.{qubits, matrix}
use Rattle.actions.proofs.Arrays.{loaded}
use Rattle.questions.proofs.Questions.{passed_size, passed_count, list_passed, list_short}
use Rattle.triangular.specs.Search.{budgeted}
use Rattle.triangular.specs.Memory.{known_within}
use Rattle.memory.specs.Entries.{memory_words, room_in}
use Rattle.transvection_exact.specs.declared.MinimalError.TheVariants.{Listing}
use Rattle.transvection_exact.specs.Minimal.{core_search_with, searched_reply}
use Rattle.transvection_exact.specs.Answers.{figures_of_lem}
use Rattle.transvection_exact.proofs.Remembering.{remembering_refused, remembering_early, remembering_searched}
use Rattle.transvection_exact.proofs.clifford_to_transvections_minimal_remembering.Goals as goal
use Rattle.transvection_exact.proofs.clifford_to_transvections_minimal_remembering.Goals.{After-from_words, In_ok-action_questions}

-- every question of the action is passed
passed : (c : goal.In_ok-action_questions)
    → action_questions_lem c.args.n (rows_of_words c.args.n c.args.rows.now) ≡ 0
passed c = sym c.action_questions.ensures ∙ ap number_of c.in_ok-action_questions.was

few : (c : goal.In_ok-action_questions) → c.args.n ≤ max_qubits
few c = passed_size c.args.n (rows_of_words c.args.n c.args.rows.now) (passed c)

pub returns-in_err-action_questions : goal.returns-in_err-action_questions
returns-in_err-action_questions c =
    let s = c.args in
    let p = err_from_is_err_and c.from_residual.result c.from_residual.ensures.1 in
    let e = c.in_err-action_questions.field-0.0 in
    let k = refused_number e in
    let told = remembering_early s.n s.rows.now s.budget s.memory.now s.out.now k.0 (figures_of_lem (Err (Listing (Action e)))) (sym c.action_questions.ensures ∙ ap number_of c.in_err-action_questions.was ∙ k.1) (ap nothing_listed_lem k.1) in
    rw (p.1, p.2) record {
      answered = told.0;
      left = told.1.0;
      remembered = told.1.1.0;
      replays = told.1.1.1.0;
      shortest = told.1.1.1.1.0;
      exact = told.1.1.1.1.1.0;
      as_without = told.1.1.1.1.1.1.0;
      every_layer = told.1.1.1.1.1.1.1.0;
      plainly = told.1.1.1.1.1.1.1.1;
    }

pub overflow_mul-wanted : goal.overflow_mul-wanted
overflow_mul-wanted c = omega (arith, few (goal.at.overflow_mul-wanted c).In_ok-action_questions)

pub overflow_add-wanted : goal.overflow_add-wanted
overflow_add-wanted c = omega (arith, few (goal.at.overflow_add-wanted c).In_ok-action_questions)

pub returns-then-out-wanted : goal.returns-then-out-wanted
returns-then-out-wanted c =
    let s = c.args in
    let told = remembering_refused s.n s.rows.now s.budget s.memory.now s.out.now 4 (figures_of_lem (Err (Listing OutputTooShort)))
    (list_short s.n (rows_of_words s.n s.rows.now) (s.n + s.n + 1) (length s.out.now) (passed (goal.at.returns-then-out-wanted c).In_ok-action_questions) (omega arith)) refl in
    rw c.into.ensures record {
      answered = told.0;
      left = told.1.0;
      remembered = told.1.1.0;
      replays = told.1.1.1.0;
      shortest = told.1.1.1.1.0;
      exact = told.1.1.1.1.1.0;
      as_without = told.1.1.1.1.1.1.0;
      every_layer = told.1.1.1.1.1.1.1.0;
      plainly = told.1.1.1.1.1.1.1.1;
    }

-- the action that was loaded
same_action : (c : goal.After-from_words) → let s = c.args in
    (qubits c.from_words.result ≡ s.n) × (matrix c.from_words.result ≡ rows_of_words s.n s.rows.now)
same_action c =
    let s = c.args in
    let F = rows_of_words s.n s.rows.now in
    loaded c.from_words.result s.n F (few (goal.at.After-from_words c).In_ok-action_questions) (passed_count s.n F (passed (goal.at.After-from_words c).In_ok-action_questions)) c.from_words.ensures.0 c.from_words.ensures.1

pub searched-requires : goal.searched-requires
searched-requires c = let same = same_action (goal.at.searched-requires c).After-from_words in ap₂ action_questions_lem same.0 same.1 ∙ passed (goal.at.searched-requires c).In_ok-action_questions

pub returns : goal.returns
returns c =
    let s = c.args in
    let F = rows_of_words s.n s.rows.now in
    let e = c.searched in
    let room = room_in s.memory.now in
    let same = same_action (goal.at.returns c).After-from_words in
    let w = ap₂ (λ (m : ℕ) (G : List ℕ). searched_reply m G (budgeted s.budget (core_search_with m G room).outcome) s.out.now) same.0 same.1 in
    let k = ap₂ (λ (m : ℕ) (G : List ℕ). over (memory_words (known_within s.budget (core_search_with m G room).memory)) s.memory.now) same.0 same.1 in
    let told = remembering_searched s.n s.rows.now s.budget s.memory.now s.out.now e.new.memory e.new.out (figures_of_lem e.result)
    (list_passed s.n F (s.n + s.n + 1) (length s.out.now) (passed (goal.at.returns c).In_ok-action_questions) (omega arith))
    (e.ensures.answered ∙ ap (λ (x : Reply). x.figures) w)
    (e.ensures.left ∙ ap (λ (x : Reply). x.words) w)
    (e.ensures.remembered ∙ k) in record {
      answered = told.0;
      left = told.1.0;
      remembered = told.1.1.0;
      replays = told.1.1.1.0;
      shortest = told.1.1.1.1.0;
      exact = told.1.1.1.1.1.0;
      as_without = told.1.1.1.1.1.1.0;
      every_layer = told.1.1.1.1.1.1.1.0;
      plainly = told.1.1.1.1.1.1.1.1;
    }
