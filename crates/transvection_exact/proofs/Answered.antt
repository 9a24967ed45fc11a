-- What the minimal call promises, from the answer and the words that it gives: those of the definition of its reply.
-- Assumes nothing.
use mathlib.Core.Path.{◌≡◌}
use mathlib.Core.List.{List}
use Prim.Native.Nat.{ℕ, suc, ◌+◌}
use lib.ListN.{length}
use Rattle.blocks.specs.Words.{rows_of_words}
use Rattle.questions.specs.declared.Figures.{Figures}
use Rattle.questions.specs.Replies.{Reply, refused, list_questions, Replays, Shortest}
use Rattle.questions.proofs.Answered.{Meets, Holds, meets_refused, meets_answer}
use Rattle.triangular.specs.Search.{Outcome, looks_of, budgeted}
use Rattle.transvection_exact.specs.Minimal.{core_search, searched_reply, minimal_reply}
use Rattle.transvection_exact.specs.Answers.{ExactFor, EveryLayer}
use Rattle.transvection_exact.proofs.Shortest.{RightOf, core_right}
use Rattle.transvection_exact.proofs.Replies.{reply_for, answered_product, answered_shortest, answered_looks, spent_only, spent_where, spent_looks, every_layer}

module _ (n : ℕ) (rows : List ℕ) (budget : ℕ) (out : List ℕ) where
  abbrev asked : ℕ
  asked = list_questions n (rows_of_words n rows) (n + n + 1) (length out)

  -- ---- of a call whose search has the outcome o

  module _ (o : Outcome) where
    abbrev answer : Reply
    answer = searched_reply n (rows_of_words n rows) (budgeted budget o) out

    abbrev pub PromisedFor : List ℕ → Figures → Type 0
    PromisedFor left t = Replays n rows left t × (Shortest n rows t × (ExactFor (looks_of o) n rows budget out t × EveryLayer n rows t))

    pub call_shortest : RightOf n (rows_of_words n rows) o → Holds PromisedFor (reply_for n rows budget out o)
    call_shortest h = (
      answered_product n rows budget out o h,
      (
        answered_shortest n rows budget out o h,
        (
          (spent_only n rows budget out o h, (λ b. spent_where n rows budget out o h b.0 b.1, (answered_looks n rows budget out o h, spent_looks n rows budget out o h))),
          every_layer n rows budget out o h,
        ),
      ),
    )

    -- whatever the reply promises, the call does
    module _ (P : List ℕ → Figures → Type 0) (h : Holds P (reply_for n rows budget out o)) where
      -- one of the questions 1 to 5
      pub call_refused : (k : ℕ) (t : Figures) → list_questions n (rows_of_words n rows) (n + n + 1) (length out) ≡ suc k → t ≡ (refused (suc k) 0 out).figures
          → Meets P (reply_for n rows budget out o) out t
      call_refused k t = meets_refused P asked out answer h t k

      -- those are passed: what the search answers
      pub call_searched : (left : List ℕ) (t : Figures) → list_questions n (rows_of_words n rows) (n + n + 1) (length out) ≡ 0
          → t ≡ (searched_reply n (rows_of_words n rows) (budgeted budget o) out).figures
          → left ≡ (searched_reply n (rows_of_words n rows) (budgeted budget o) out).words
          → Meets P (reply_for n rows budget out o) left t
      call_searched left t e = meets_answer P asked out answer h t e left

  -- ---- of document 01's call

  abbrev core : Outcome
  core = core_search n (rows_of_words n rows)

  abbrev pub Promised : List ℕ → Figures → Type 0
  Promised left t = PromisedFor (core_search n (rows_of_words n rows)) left t

  pub minimal_shortest : Holds Promised (minimal_reply n rows budget out)
  unfolding minimal_reply
  minimal_shortest = call_shortest core (core_right n (rows_of_words n rows))
