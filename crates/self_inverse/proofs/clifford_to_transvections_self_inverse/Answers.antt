-- `clifford_to_transvections_self_inverse` refuses by the first question that is answered no, by `met_early`, `met_short` and `met_other`; else it lays the list that
-- the residue of the action is taken apart into, by `commuting_list` and `met_answer`.
use mathlib.Core.Path.{◌≡◌, sym, ap, ap₂, ◌∙◌, subst₂}
use mathlib.Core.Bool.{true}
use mathlib.Core.List.{List}
use Prim.Native.Nat.{ℕ, ◌+◌, ◌^◌, ◌≤◌, ◌<◌}
use native.Mathlib.Omega.{arith}
use Rattle.std.proofs.lemmas.Result.{err_from_is_err_and}
use Rattle.questions.specs.Answers.{number_of}
use Rattle.blocks.specs.Matrices.{All}
use Rattle.blocks.specs.Words.{rows_of_words, laid}
use Rattle.symplectic.specs.Sizes.{max_qubits}
use Rattle.actions.specs.Actions.{qubits, matrix}
use Rattle.actions.proofs.Arrays.{loaded}
use Rattle.questions.specs.Replies.{action_questions_lem}
use Rattle.questions.proofs.Questions.{passed_size, passed_count, passed_rows, passed_symplectic}
use Rattle.residue.specs.Residue.{residue}
use Rattle.self_inverse.specs.SelfInverse.{is_self_inverse}
use Rattle.self_inverse.specs.inner.Peels.{SymmetricSquare, Decomposed}
use Rattle.self_inverse.proofs.Squares.{self_inverse_is}
use Rattle.self_inverse.proofs.Adjoint.{residue_rest}
use Rattle.self_inverse.proofs.Counts.{commuting_list}
use Rattle.self_inverse.proofs.Replied.{met_early, met_short, met_other, met_answer}
use Rattle.self_inverse.proofs.clifford_to_transvections_self_inverse.Goals as goal
use Rattle.self_inverse.proofs.clifford_to_transvections_self_inverse.Goals.{After-from_words-a, After-is_self_inverse, Else-not-is_self_inverse, In_ok-action_questions, Start}

-- the rows that are lent
abbrev lent : (c : goal.Start) → List ℕ
lent c = rows_of_words c.args.n c.args.rows.now

-- every question of the action is passed
passed : (c : goal.In_ok-action_questions) → action_questions_lem c.args.n (lent (goal.at.In_ok-action_questions c).Start) ≡ 0
passed c = sym c.action_questions.ensures ∙ ap number_of c.in_ok-action_questions.was

few : (c : goal.In_ok-action_questions) → c.args.n ≤ max_qubits
few c = passed_size c.args.n (lent (goal.at.In_ok-action_questions c).Start) (passed c)

-- the action that was read is the one that the words hold
same : (c : goal.After-from_words-a) → (qubits c.from_words-a.result ≡ c.args.n) × (matrix c.from_words-a.result ≡ lent (goal.at.After-from_words-a c).Start)
same c =
    let e = c.from_words-a.ensures in
    loaded c.from_words-a.result c.args.n (lent (goal.at.After-from_words-a c).Start) (few (goal.at.After-from_words-a c).In_ok-action_questions) (passed_count c.args.n (lent (goal.at.After-from_words-a c).Start) (passed (goal.at.After-from_words-a c).In_ok-action_questions)) e.0 e.1

-- the test of it is that of the rows
tested : (c : goal.After-is_self_inverse) → c.is_self_inverse.result ≡ is_self_inverse c.args.n (lent (goal.at.After-is_self_inverse c).Start)
tested c = let e = same (goal.at.After-is_self_inverse c).After-from_words-a in c.is_self_inverse.ensures ∙ ap₂ (λ (m : ℕ) (G : List ℕ). is_self_inverse m G) e.0 e.1

-- it is its own inverse
inverse : (c : goal.Else-not-is_self_inverse) → is_self_inverse c.args.n (lent (goal.at.Else-not-is_self_inverse c).Start) ≡ true
inverse c = sym (tested (goal.at.Else-not-is_self_inverse c).After-is_self_inverse) ∙ c.if-not-is_self_inverse.false

pub returns-in_err-action_questions : goal.returns-in_err-action_questions
returns-in_err-action_questions c =
    let s = c.args in
    let p = err_from_is_err_and c.from_residual.result c.from_residual.ensures.1 in
    let told = met_early s.n s.rows.now s.out.now c.in_err-action_questions.field-0.0 (sym (ap number_of c.in_err-action_questions.was) ∙ c.action_questions.ensures) in
    rw (p.1, p.2) record {
      answered = told.0;
      left = told.1.0;
      replays = told.1.1.0;
      shortest = told.1.1.1.0;
      commuting = told.1.1.1.1.0;
      counted = told.1.1.1.1.1.0;
      seventeen = told.1.1.1.1.1.1;
    }

pub overflow_add-wanted : goal.overflow_add-wanted
overflow_add-wanted c = omega (arith, few (goal.at.overflow_add-wanted c).In_ok-action_questions)

pub overflow_add-wanted-2 : goal.overflow_add-wanted-2
overflow_add-wanted-2 c = omega (arith, few (goal.at.overflow_add-wanted-2 c).In_ok-action_questions)

pub returns-then-out-wanted : goal.returns-then-out-wanted
returns-then-out-wanted c =
    let s = c.args in
    let told = met_short s.n s.rows.now s.out.now (passed (goal.at.returns-then-out-wanted c).In_ok-action_questions) (omega arith) in
    rw c.into.ensures record {
      answered = told.0;
      left = told.1.0;
      replays = told.1.1.0;
      shortest = told.1.1.1.0;
      commuting = told.1.1.1.1.0;
      counted = told.1.1.1.1.1.0;
      seventeen = told.1.1.1.1.1.1;
    }

pub is_self_inverse-requires : goal.is_self_inverse-requires
is_self_inverse-requires c =
    let e = same c in
    subst₂ (λ (m : ℕ) (G : List ℕ). All (λ f. f < 2 ^ (m + m)) G) (sym e.0) (sym e.1) (passed_rows c.args.n (lent (goal.at.is_self_inverse-requires c).Start) (passed (goal.at.is_self_inverse-requires c).In_ok-action_questions))

pub returns-then-not-is_self_inverse : goal.returns-then-not-is_self_inverse
returns-then-not-is_self_inverse c =
    let s = c.args in
    let told = met_other s.n s.rows.now s.out.now (passed (goal.at.returns-then-not-is_self_inverse c).In_ok-action_questions) (omega arith) (sym (tested (goal.at.returns-then-not-is_self_inverse c).After-is_self_inverse) ∙ c.if-not-is_self_inverse.true) in record {
      answered = told.0;
      left = told.1.0;
      replays = told.1.1.0;
      shortest = told.1.1.1.0;
      commuting = told.1.1.1.1.0;
      counted = told.1.1.1.1.1.0;
      seventeen = told.1.1.1.1.1.1;
    }

-- its residue is symmetric
pub commuting_turns-requires : goal.commuting_turns-requires
commuting_turns-requires c =
    let n = c.args.n in
    let F = lent (goal.at.commuting_turns-requires c).Start in
    let e = same (goal.at.commuting_turns-requires c).After-from_words-a in
    let p = passed (goal.at.commuting_turns-requires c).In_ok-action_questions in (
      subst₂ (λ (m : ℕ) (G : List ℕ). SymmetricSquare (residue m G)) (sym e.0) (sym e.1)
          (residue_rest n F (passed_count n F p) (passed_rows n F p) (passed_symplectic n F p) (self_inverse_is n F (inverse (goal.at.commuting_turns-requires c).Else-not-is_self_inverse))),
      c.new-list.ensures,
    )

pub returns : goal.returns
returns c =
    let o = c.commuting_turns in
    let s = c.args in
    let F = lent (goal.at.returns c).Start in
    let p = passed (goal.at.returns c).In_ok-action_questions in
    let e = same (goal.at.returns c).After-from_words-a in
    let d = subst₂ (λ (m : ℕ) (G : List ℕ). Decomposed (residue m G) o.new.list) e.0 e.1 o.ensures in
    let list = commuting_list s.n F (passed_count s.n F p) (passed_rows s.n F p) (passed_symplectic s.n F p) (self_inverse_is s.n F (inverse (goal.at.returns c).Else-not-is_self_inverse)) o.new.list d in
    let told = met_answer s.n s.rows.now s.out.now p (omega arith) (inverse (goal.at.returns c).Else-not-is_self_inverse) o.new.list list c.len.result _ c.len.ensures
    (c.lay.ensures ∙ ap (λ (l : List ℕ). laid s.n l s.out.now) c.as_slice.ensures) in record {
      answered = told.0;
      left = told.1.0;
      replays = told.1.1.0;
      shortest = told.1.1.1.0;
      commuting = told.1.1.1.1.0;
      counted = told.1.1.1.1.1.0;
      seventeen = told.1.1.1.1.1.1;
    }
