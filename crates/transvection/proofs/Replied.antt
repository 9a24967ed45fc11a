-- What the greedy call replies: each refusal in its turn, and the whole list where every question is passed.
-- Assumes nothing.
use mathlib.Core.Path.{◌≡◌, refl, sym, ◌∙◌, subst}
use mathlib.Core.List.{List}
use Prim.Native.Nat.{ℕ, suc, ◌*◌, ◌+◌, ◌^◌, ◌≤◌, ◌<◌}
use native.Mathlib.Omega.{arith}
use lib.ListN.{length, take}
use Rattle.blocks.specs.Matrices.{All}
use Rattle.blocks.specs.Words.{rows_of_words, laid}
use Rattle.blocks.proofs.Values.{rows_count, laid_front}
use Rattle.symplectic.specs.Sizes.{max_qubits}
use Rattle.questions.specs.declared.Figures.{Figures}
use Rattle.questions.specs.Replies.{Reply, refused, listed, action_questions_lem, list_questions, Replays}
use Rattle.questions.proofs.Questions.{question_2, passed_size, passed_count, passed_rows, passed_symplectic, list_refused, list_known, reply_refused}
use Rattle.questions.proofs.Answered.{Holds, holds_unless, rows_wide, refused_replays, listed_replays}
use Rattle.questions.proofs.Listings.{ListCall}
use Rattle.transvection.specs.Greedy.{greedy_list, greedy_reply}
use Rattle.transvection.proofs.Records.{Action}
use Rattle.transvection.proofs.Ends.{greedy_product, greedy_length, greedy_lt}

-- an action that passed its questions
pub passed_action : (n : ℕ) (rows : List ℕ) → action_questions_lem n rows ≡ 0 → Action n rows
passed_action n rows e = (passed_count n rows e, passed_rows n rows e, passed_symplectic n rows e)

module _ (n : ℕ) (rows out : List ℕ) where
  abbrev asked : ℕ
  asked = list_questions n (rows_of_words n rows) (4 * n + 2) (length out)

  abbrev pub Promised : List ℕ → Figures → Type 0
  Promised left t = Replays n rows left t × (t.count ≤ 4 * n)

  abbrev answer : Reply
  answer = listed n (greedy_list n (rows_of_words n rows)) 0 out

  -- an answer's list has the product of the action, and at most four turns for each qubit
  greedy_answer : list_questions n (rows_of_words n rows) (4 * n + 2) (length out) ≡ 0 → Holds Promised answer
  greedy_answer e =
      let known = list_known n (rows_of_words n rows) (4 * n + 2) (length out) e in
      let a = passed_action n (rows_of_words n rows) known.0 in
      let short : length (greedy_list n (rows_of_words n rows)) ≤ 4 * n = greedy_length n (rows_of_words n rows) a in (
        listed_replays n rows (passed_size n (rows_of_words n rows) known.0) (greedy_list n (rows_of_words n rows)) (greedy_lt n (rows_of_words n rows) a) 0 out
            (greedy_product n (rows_of_words n rows) a) (omega (arith, known.1)),
        short,
      )

  greedy_refusal : (k : ℕ) → Holds Promised (refused (suc k) 0 out)
  greedy_refusal k = (refused_replays n rows k 0 out, omega arith)

  greedy_replays : Holds Promised (greedy_reply n rows out)
  unfolding greedy_reply
  greedy_replays = holds_unless Promised asked out answer greedy_refusal greedy_answer

  pub greedy_call : ListCall Promised n rows (4 * n + 2) (greedy_list n (rows_of_words n rows)) out (greedy_reply n rows out)
  unfolding greedy_reply
  greedy_call = record { is = refl; holds = greedy_replays }

  -- the listed vectors have 2n columns
  pub greedy_fits : All (λ v. v < 2 ^ (n + n)) (take (greedy_reply n rows out).figures.count (rows_of_words n (greedy_reply n rows out).words))
  unfolding greedy_reply
  greedy_fits = holds_unless (λ left t. All (λ v. v < 2 ^ (n + n)) (take t.count (rows_of_words n left))) asked out answer (λ k. tt) answer_fits
    where
      answer_fits : list_questions n (rows_of_words n rows) (4 * n + 2) (length out) ≡ 0
          → All (λ v. v < 2 ^ (n + n)) (take (length (greedy_list n (rows_of_words n rows))) (rows_of_words n (laid n (greedy_list n (rows_of_words n rows)) out)))
      answer_fits e =
          let known = list_known n (rows_of_words n rows) (4 * n + 2) (length out) e in
          let a = passed_action n (rows_of_words n rows) known.0 in
          let wide = rows_wide {n = n} (passed_size n (rows_of_words n rows) known.0) in
          let vs = greedy_list n (rows_of_words n rows) in
          subst (All (λ v. v < 2 ^ (n + n)))
          (sym (laid_front n wide vs out (greedy_lt n (rows_of_words n rows) a) (omega (arith, known.1, greedy_length n (rows_of_words n rows) a))))
          (greedy_lt n (rows_of_words n rows) a)

  -- another count of rows is refused
  pub greedy_miscounted : n ≤ max_qubits → (length rows ≡ n + n → ⊥) → greedy_reply n rows out ≡ refused 2 0 out
  unfolding greedy_reply
  greedy_miscounted few h =
      reply_refused asked 1 out answer
      (list_refused n (rows_of_words n rows) (4 * n + 2) (length out) 1 (question_2 n (rows_of_words n rows) few (λ e. h (sym (rows_count n rows) ∙ e))))
