-- What the fixed-space call replies: each refusal in its turn, and the whole basis where every question is passed.
-- Assumes nothing.
use mathlib.Core.Path.{◌≡◌, refl, sym, subst}
use mathlib.Core.List.{List}
use Prim.Native.Nat.{ℕ, suc, ◌+◌}
use native.Mathlib.Omega.{arith}
use lib.ListN.{length}
use Rattle.blocks.specs.Words.{rows_of_words}
use Rattle.blocks.proofs.Values.{laid_front}
use Rattle.blocks.specs.Matrices.{All}
use Rattle.questions.specs.declared.Figures.{Figures}
use Rattle.questions.specs.Replies.{Reply, refused, listed, list_questions}
use Rattle.questions.proofs.Questions.{passed_size, passed_count, passed_rows, list_known}
use Rattle.questions.proofs.Answered.{Holds, holds_unless, rows_wide}
use Rattle.questions.proofs.Listings.{ListCall}
use Rattle.reduction.specs.Pivots.{ReducedRows}
use Rattle.fixed_space.specs.FixedSpace.{fixed_space_lem, fixed_reply}
use Rattle.fixed_space.specs.Promises.{Fixed, Spanning, InPlace, Complete, Reduced, Counted}
use Rattle.fixed_space.proofs.Fixed.{fixed_rows, fixed_spanning, fixed_reduced, fixed_count, fixed_lt}

module _ (n : ℕ) (rows out : List ℕ) where
  abbrev questions : ℕ
  questions = list_questions n (rows_of_words n rows) (n + n) (length out)

  abbrev pub Promised : List ℕ → Figures → Type 0
  Promised left t = InPlace n rows left t × (Complete n rows left t × (Reduced n left t × Counted n rows t))

  abbrev answer : Reply
  answer = listed n (fixed_space_lem n (rows_of_words n rows)) 0 out

  fixed_answer : list_questions n (rows_of_words n rows) (n + n) (length out) ≡ 0 → Holds Promised answer
  fixed_answer e =
      let F = rows_of_words n rows in
      let known = list_known n F (n + n) (length out) e in
      let size = passed_count n F known.0 in
      let bounded = passed_rows n F known.0 in
      let count = fixed_count n F size bounded in
      let front = laid_front n (rows_wide {n = n} (passed_size n F known.0)) (fixed_space_lem n F) out (fixed_lt n F size bounded) (omega (arith, known.1)) in (
        λ z. subst (All (Fixed n F)) (sym front) (fixed_rows n F size bounded),
        (λ z. subst (Spanning n F) (sym front) (fixed_spanning n F size bounded), (λ z. subst ReducedRows (sym front) (fixed_reduced n F size bounded), λ z. count)),
      )

  fixed_refusal : (k : ℕ) → Holds Promised (refused (suc k) 0 out)
  fixed_refusal k = (λ z. absurd (omega arith), (λ z. absurd (omega arith), (λ z. absurd (omega arith), λ z. absurd (omega arith))))

  fixed_promised : Holds Promised (fixed_reply n rows out)
  unfolding fixed_reply
  fixed_promised = holds_unless Promised questions out answer fixed_refusal fixed_answer

  pub fixed_call : ListCall Promised n rows (n + n) (fixed_space_lem n (rows_of_words n rows)) out (fixed_reply n rows out)
  unfolding fixed_reply
  fixed_call = record { is = refl; holds = fixed_promised }
