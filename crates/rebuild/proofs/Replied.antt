-- What a rebuild replies: each refusal in its turn, and the whole product where every question is passed.
-- Assumes nothing.
use mathlib.Core.Path.{◌≡◌, refl, sym, ap, ◌∙◌}
use mathlib.Core.Bool.{Bool, true, false}
use mathlib.Core.List.{List}
use Prim.Native.Nat.{ℕ, suc, ◌+◌, ◌≤◌, ◌<◌}
use lib.ListN.{length}
use Rattle.blocks.specs.Words.{rows_of_words, laid}
use Rattle.blocks.proofs.Values.{rows_count}
use Rattle.std.specs.Prelude.{Ok, Err}
use Rattle.symplectic.specs.Sizes.{max_qubits}
use Rattle.symplectic.specs.Turns.{product}
use Rattle.questions.specs.declared.Figures.{Figures}
use Rattle.questions.specs.Replies.{Reply, refused, listed, ask, Rebuilds}
use Rattle.symplectic.specs.Matches.{fit_all}
use Rattle.symplectic.proofs.Products.{product_length}
use Rattle.symplectic.proofs.Matches.{fit_all_lem}
use Rattle.questions.proofs.Questions.{size_refused, size_passed, size_known, count_refused, count_passed, count_known, ask_passed}
use Rattle.questions.proofs.Answered.{Meets, Holds, meets_refused, meets_answer, rebuilds}
use Rattle.rebuild.specs.declared.RebuildError.TheVariants.{TooManyQubits, WrongRowCount, VectorTooWide}
use Rattle.rebuild.specs.Answers.{figures_of_lem}
use Rattle.rebuild.specs.Rebuilds.{rebuild_questions, rebuild_reply}

-- ---- the questions

module _ (n : ℕ) (vs rows : List ℕ) where
  asked_1 : max_qubits < n → rebuild_questions n vs rows ≡ 1
  unfolding rebuild_questions
  asked_1 h = size_refused n _ h

  asked_2 : n ≤ max_qubits → (length rows ≡ n + n → ⊥) → rebuild_questions n vs rows ≡ 2
  unfolding rebuild_questions
  asked_2 h k = size_passed n _ h ∙ count_refused n _ rows k

  counted : n ≤ max_qubits → length rows ≡ n + n → rebuild_questions n vs rows ≡ ask (fit_all (n + n) vs) 8 0
  unfolding rebuild_questions
  counted h e = size_passed n _ h ∙ count_passed n _ rows e

  -- what is known where every question is passed
  asked_known : rebuild_questions n vs rows ≡ 0 → (n ≤ max_qubits) × (length rows ≡ n + n) × (fit_all (n + n) vs ≡ true)
  unfolding rebuild_questions
  asked_known e =
      let size = size_known n _ e in
      let count = count_known n _ rows size.1 in
      (size.0, count.0, (ask_passed (fit_all (n + n) vs) 7 0 count.1).0)

-- ---- the reply

module _ (n : ℕ) (list out : List ℕ) where
  abbrev asked : ℕ
  asked = rebuild_questions n (rows_of_words n list) (rows_of_words n out)

  abbrev Promised : List ℕ → Figures → Type 0
  Promised = Rebuilds n (rows_of_words n list)

  abbrev answer : Reply
  answer = listed n (product n (rows_of_words n list)) 0 out

  rebuild_rebuilds : Holds Promised (rebuild_reply n list out)
  unfolding rebuild_reply
  rebuild_rebuilds =
      rebuilds n (rows_of_words n list) asked out
      (λ e. let known = asked_known n (rows_of_words n list) (rows_of_words n out) e in (known.0, (fit_all_lem (n + n) (rows_of_words n list) known.2, known.1)))

  rebuild_refused : (k : ℕ) (t : Figures) → rebuild_questions n (rows_of_words n list) (rows_of_words n out) ≡ suc k → t ≡ (refused (suc k) 0 out).figures → Meets Promised (rebuild_reply n list out) out t
  unfolding rebuild_reply
  rebuild_refused k t = meets_refused Promised asked out answer rebuild_rebuilds t k

  pub rebuild_1 : max_qubits < n → Meets Promised (rebuild_reply n list out) out (figures_of_lem (Err TooManyQubits))
  rebuild_1 h = rebuild_refused 0 (figures_of_lem (Err TooManyQubits)) (asked_1 n (rows_of_words n list) (rows_of_words n out) h) refl

  module _ (size : n ≤ max_qubits) where
    pub rebuild_2 : (length out ≡ n + n → ⊥) → Meets Promised (rebuild_reply n list out) out (figures_of_lem (Err WrongRowCount))
    rebuild_2 h =
        rebuild_refused 1 (figures_of_lem (Err WrongRowCount)) (asked_2 n (rows_of_words n list) (rows_of_words n out) size (λ e. h (sym (rows_count n out) ∙ e))) refl

    module _ (lent : length out ≡ n + n) where
      passed : rebuild_questions n (rows_of_words n list) (rows_of_words n out) ≡ ask (fit_all (n + n) (rows_of_words n list)) 8 0
      passed = counted n (rows_of_words n list) (rows_of_words n out) size (rows_count n out ∙ lent)

      pub rebuild_8 : fit_all (n + n) (rows_of_words n list) ≡ false → Meets Promised (rebuild_reply n list out) out (figures_of_lem (Err VectorTooWide))
      rebuild_8 f = rebuild_refused 7 (figures_of_lem (Err VectorTooWide)) (passed ∙ ap (λ (b : Bool). ask b 8 0) f) refl

      -- an answer lays the product into the words
      pub rebuild_listed : (left : List ℕ) → fit_all (n + n) (rows_of_words n list) ≡ true → left ≡ laid n (product n (rows_of_words n list)) out
          → Meets Promised (rebuild_reply n list out) left (figures_of_lem (Ok (n + n)))
      unfolding rebuild_reply
      rebuild_listed left f l =
          meets_answer Promised asked out answer rebuild_rebuilds (figures_of_lem (Ok (n + n))) (passed ∙ ap (λ (b : Bool). ask b 8 0) f) left
          (ap (λ (k : ℕ). figures_of_lem (Ok k)) (sym (product_length n (rows_of_words n list)))) l
