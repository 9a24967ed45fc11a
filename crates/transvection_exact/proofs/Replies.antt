-- The minimal call, whatever it is called with: an answer's list has the product F and no list is shorter; a refusal changes nothing; budget and looks are exact.
-- Assumes nothing.
use mathlib.Core.Path.{◌≡◌, refl, sym, ap, ◌∙◌, subst}
use mathlib.Core.Bool.{Bool, true, false, cond}
use mathlib.Core.List.{List}
use Prim.Native.Nat.{ℕ, zero, suc, ◌+◌, ◌^◌, ◌≤◌, ◌<◌}
use lib.Dec.{leb, eqb}
use lib.ListN.{length, take}
use borrow.Author.Tests.{leb-true, leb-false}
use Rattle.blocks.specs.Matrices.{All}
use Rattle.blocks.specs.Words.{rows_of_words}
use Rattle.blocks.proofs.Values.{rows_count}
use Rattle.symplectic.specs.Sizes.{max_qubits}
use Rattle.symplectic.specs.Turns.{product}
use Rattle.questions.specs.declared.Figures.{Figures}
use Rattle.questions.specs.Replies.{Reply, refused, unless_refused, action_questions_lem, list_questions}
use Rattle.questions.proofs.Questions.{question_2, list_small, passed_size, passed_count, passed_rows, passed_symplectic, list_refused, list_or_short, list_known, reply_refused as refused_reply}
use Rattle.triangular.specs.Search.{Outcome, looks_of, ended_if, budgeted}
use Rattle.triangular.proofs.Budgets.{budgeted_is}
use Rattle.symplectic.specs.NoneShorter.{NoneShorter, LeastLength}
use Rattle.transvection_exact.specs.Minimal.{core_search, list_after, searched_reply, minimal_reply}
use Rattle.transvection_exact.specs.Answers.{RankOrOneMore, EveryLayer}
use Rattle.transvection_exact.proofs.Shortest.{ShortestList, least_of, RightOf, core_right, shortest_after}
use Rattle.transvection_exact.proofs.Ends.{Ends, early, beyond, answered, Answer, answer, count_is, looks_are, taken_is, refusal_of, spent_of, of_spent, number_of}

-- the reply of a call whose search, without a budget, has the outcome o
abbrev pub reply_for : ℕ → List ℕ → ℕ → List ℕ → Outcome → Reply
reply_for n words budget out o =
    let F = rows_of_words n words in
    unless_refused (list_questions n F (n + n + 1) (length out)) out (searched_reply n F (budgeted budget o) out)

module _ (n : ℕ) (words : List ℕ) (budget : ℕ) (out : List ℕ) where
  abbrev pub rows : List ℕ
  rows = rows_of_words n words

  abbrev pub asked : ℕ
  asked = list_questions n rows (n + n + 1) (length out)

  -- ---- what is known once the questions 1 to 5 are passed

  module _ (passed : asked ≡ 0) where
    known : (action_questions_lem n rows ≡ 0) × (n + n + 1 ≤ length out)
    known = list_known n rows (n + n + 1) (length out) passed

    size : length rows ≡ n + n
    size = passed_count n rows known.0

    bounded : All (λ f. f < 2 ^ (n + n)) rows
    bounded = passed_rows n rows known.0

    pub passed_shortest : (o : Outcome) → RightOf n rows o → ShortestList n rows (list_after n rows o)
    passed_shortest = shortest_after n rows size bounded (passed_symplectic n rows known.0)

    -- ---- every call has one of the three ends

    by_budget : (o : Outcome) → RightOf n rows o → (b : Bool) → leb (looks_of o) budget ≡ b
        → Ends n rows asked budget (looks_of o) out (searched_reply n rows (ended_if b o budget) out)
    by_budget o h true e =
        answered (list_after n rows o) passed (leb-true (looks_of o) budget e) (passed_size n rows known.0) known.1 size (passed_shortest o h) refl
    by_budget o h false e = beyond passed (leb-false (looks_of o) budget e) refl

  -- the outcome of a search that is right
  module _ (o : Outcome) (right : RightOf n rows o) where
    abbrev pub wanted : ℕ
    wanted = looks_of o

    abbrev pub reply : Reply
    reply = reply_for n words budget out o

    reply_ends : Ends n rows asked budget wanted out reply
    reply_ends = go asked refl (list_small n rows (n + n + 1) (length out))
      where
        go : (k : ℕ) → asked ≡ k → k ≤ 5 → Ends n rows asked budget wanted out (unless_refused k out (searched_reply n rows (budgeted budget o) out))
        go zero e l =
            subst (λ v. Ends n rows asked budget wanted out (searched_reply n rows v out)) (sym (budgeted_is budget o)) (by_budget e o right (leb wanted budget) refl)
        go (suc k) e l = early k e l refl

    -- ---- what the reply says

    module _ (z : reply.figures.number ≡ 0) where
      abbrev the : Answer n rows asked budget wanted out reply
      the = answer n rows asked budget wanted out reply reply_ends z

      is_the_list : take reply.figures.count (rows_of_words n reply.words) ≡ the.list
      is_the_list = taken_is n rows asked budget wanted out reply the

      count_the : reply.figures.count ≡ length the.list
      count_the = count_is n rows asked budget wanted out reply the

      -- the listed words, from the start of the output, multiplied out
      pub answered_product : product n (take reply.figures.count (rows_of_words n reply.words)) ≡ rows
      answered_product = ap (product n) is_the_list ∙ the.shortest.replays

      pub answered_shortest : NoneShorter n rows reply.figures.count
      answered_shortest = subst (NoneShorter n rows) (sym count_the) the.shortest.least

      answered_fits : All (λ v. v < 2 ^ (n + n)) (take reply.figures.count (rows_of_words n reply.words))
      answered_fits = subst (All (λ v. v < 2 ^ (n + n))) (sym is_the_list) the.shortest.fits

      answered_count : RankOrOneMore n rows reply.figures.count
      answered_count = subst (RankOrOneMore n rows) (sym count_the) the.shortest.count

      -- so the count is the least length
      pub answered_least : LeastLength n rows reply.figures.count
      answered_least = subst (LeastLength n rows) (sym count_the) (least_of n rows the.list the.shortest)

      pub answered_looks : reply.figures.looks ≡ wanted
      answered_looks = looks_are n rows asked budget wanted out reply the

    -- a refusal as a caller reads it
    pub reply_refused : (k : ℕ) → reply.figures.number ≡ suc k → reply.figures ≡ (refused (suc k) (cond (eqb (suc k) 6) budget 0) out).figures
    reply_refused k z = ap (λ (r : Reply). r.figures) (refusal_of n rows asked budget wanted out reply reply_ends k z)

    -- 6 just where the questions before are passed and the search takes a look beyond the budget
    pub spent_only : reply.figures.number ≡ 6 → (asked ≡ 0) × (budget < wanted)
    spent_only z = let s = spent_of n rows asked budget wanted out reply reply_ends z in (s.0, s.1)

    pub spent_where : asked ≡ 0 → budget < wanted → reply.figures.number ≡ 6
    spent_where = of_spent n rows asked budget wanted out reply reply_ends

    pub spent_looks : reply.figures.number ≡ 6 → reply.figures.looks ≡ budget
    spent_looks z = (spent_of n rows asked budget wanted out reply reply_ends z).2

    pub every_layer : EveryLayer n words reply.figures
    every_layer = (λ q. number_of n rows asked budget wanted out reply reply_ends (list_or_short n rows (n + n + 1) (length out) q), answered_count)

    -- the listed vectors have 2n columns
    pub reply_fits : All (λ v. v < 2 ^ (n + n)) (take reply.figures.count (rows_of_words n reply.words))
    reply_fits = go reply.figures.number refl
      where
        go : (k : ℕ) → reply.figures.number ≡ k → All (λ v. v < 2 ^ (n + n)) (take reply.figures.count (rows_of_words n reply.words))
        go zero z = answered_fits z
        go (suc k) z =
            subst (λ (c : ℕ). All (λ v. v < 2 ^ (n + n)) (take c (rows_of_words n reply.words))) (sym (ap (λ (t : Figures). t.count) (reply_refused k z))) tt

  -- ---- of document 01's search

  pub minimal_refused : (k : ℕ) → (minimal_reply n words budget out).figures.number ≡ suc k
      → (minimal_reply n words budget out).figures ≡ (refused (suc k) (cond (eqb (suc k) 6) budget 0) out).figures
  unfolding minimal_reply
  minimal_refused = reply_refused (core_search n rows) (core_right n rows)

  pub minimal_fits : All (λ v. v < 2 ^ (n + n)) (take (minimal_reply n words budget out).figures.count (rows_of_words n (minimal_reply n words budget out).words))
  unfolding minimal_reply
  minimal_fits = reply_fits (core_search n rows) (core_right n rows)

  -- the count of an answer is the least length
  pub minimal_least : (minimal_reply n words budget out).figures.number ≡ 0 → LeastLength n (rows_of_words n words) (minimal_reply n words budget out).figures.count
  unfolding minimal_reply
  minimal_least = answered_least (core_search n rows) (core_right n rows)

  -- another count of rows is refused
  pub minimal_miscounted : n ≤ max_qubits → (length words ≡ n + n → ⊥) → minimal_reply n words budget out ≡ refused 2 0 out
  unfolding minimal_reply
  minimal_miscounted few h =
      refused_reply asked 1 out _ (list_refused n rows (n + n + 1) (length out) 1 (question_2 n rows few (λ e. h (sym (rows_count n words) ∙ e))))
