-- A call that lists without a search meets its reply: at each question of the action, at the fifth, and where it lists.
-- Assumes nothing.
use mathlib.Core.Path.{◌≡◌, refl, sym, ap, ◌∙◌, subst}
use mathlib.Core.List.{List}
use Prim.Native.Nat.{ℕ, suc, ◌≤◌, ◌<◌}
use lib.ListN.{length}
use Rattle.blocks.specs.Words.{rows_of_words, laid}
use Rattle.questions.specs.declared.Figures.{Figures}
use Rattle.std.specs.Prelude.{Ok, Err}
use Rattle.questions.specs.declared.ActionError.{ActionError}
use Rattle.questions.specs.declared.ActionError.TheVariants.{TooManyQubits, WrongRowCount, RowTooWide, NotSymplectic}
use Rattle.questions.specs.declared.ListingError.TheVariants.{Action, OutputTooShort}
use Rattle.questions.specs.Answers.{action_number, figures_of_lem}
use Rattle.questions.specs.Replies.{Reply, nothing_listed_lem, listed, unless_refused, action_questions_lem, list_questions}
use Rattle.questions.proofs.Questions.{list_passed, list_short, list_refused}
use Rattle.questions.proofs.Answered.{Meets, Holds, meets_refused, meets_answer}

-- a question that is answered no has a number other than 0
pub refused_number : (e : ActionError) → (k : ℕ) × (action_number e ≡ suc k)
refused_number TooManyQubits = (0, refl)
refused_number WrongRowCount = (1, refl)
refused_number RowTooWide = (2, refl)
refused_number NotSymplectic = (3, refl)

-- a call that asks the questions of a list call, with so many output words, and then lists; and what holds of its reply
pub record ListCall (P : List ℕ → Figures → Type 0) (n : ℕ) (rows : List ℕ) (wanted : ℕ) (list out : List ℕ) (reply : Reply) : Type 0 where
  pub is : reply ≡ unless_refused (list_questions n (rows_of_words n rows) wanted (length out)) out (listed n list 0 out)
  pub holds : Holds P reply

module _ {P : List ℕ → Figures → Type 0} {n : ℕ} {rows : List ℕ} {wanted : ℕ} {list out : List ℕ} {reply : Reply} (call : ListCall P n rows wanted list out reply) where
  abbrev questions : ℕ
  questions = list_questions n (rows_of_words n rows) wanted (length out)

  abbrev answer : Reply
  answer = listed n list 0 out

  holds : Holds P (unless_refused questions out answer)
  holds = subst (Holds P) call.is call.holds

  refused_at : (k : ℕ) (t : Figures) → questions ≡ suc k → t ≡ nothing_listed_lem (suc k) → Meets P reply out t
  refused_at k t e s = subst (λ (x : Reply). Meets P x out t) (sym call.is) (meets_refused P questions out answer holds t k e s)

  -- by the first question of the action that is answered no
  pub listing_early : (e : ActionError) → action_number e ≡ action_questions_lem n (rows_of_words n rows) → Meets P reply out (figures_of_lem (Err (Action e)))
  listing_early e a =
      let k = refused_number e in
      refused_at k.0 (figures_of_lem (Err (Action e))) (list_refused n (rows_of_words n rows) wanted (length out) k.0 (sym a ∙ k.1)) (ap nothing_listed_lem k.1)

  module _ (passed : action_questions_lem n (rows_of_words n rows) ≡ 0) where
    -- by the fifth
    pub listing_short : length out < wanted → Meets P reply out (figures_of_lem (Err OutputTooShort))
    listing_short l = refused_at 4 (figures_of_lem (Err OutputTooShort)) (list_short n (rows_of_words n rows) wanted (length out) passed l) refl

    -- the list laid into the words
    pub listing_answer : wanted ≤ length out → (count : ℕ) (left : List ℕ) → count ≡ length list → left ≡ laid n list out
        → Meets P reply left (figures_of_lem (Ok count))
    listing_answer l count left c w =
        subst (λ (x : Reply). Meets P x left (figures_of_lem (Ok count))) (sym call.is)
        (meets_answer P questions out answer holds (figures_of_lem (Ok count)) (list_passed n (rows_of_words n rows) wanted (length out) passed l) left
        (ap (λ (k : ℕ). figures_of_lem (Ok k)) c) w)
