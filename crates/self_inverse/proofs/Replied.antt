-- What the call replies: each refusal in its turn, and a list of commuting turns where every question is passed.
-- Assumes nothing.
use mathlib.Core.Path.{◌≡◌, refl, sym, ap, ap₂, ◌∙◌, subst}
use mathlib.Core.Bool.{Bool, true, false, true≢false}
use mathlib.Core.List.{List}
use Prim.Native.Nat.{ℕ, zero, suc, ◌+◌, ◌≤◌, ◌<◌}
use native.Mathlib.Omega.{arith}
use lib.ListN.{length, take}
use Rattle.blocks.specs.Matrices.{matmul, units}
use Rattle.blocks.specs.Words.{rows_of_words, laid}
use Rattle.blocks.proofs.Values.{laid_front}
use Rattle.symplectic.specs.Turns.{product}
use Rattle.questions.specs.declared.Figures.{Figures}
use Rattle.questions.specs.Replies.{Reply, nothing_listed_lem, listed, ask, unless_refused, action_questions_lem, list_questions, Replays, Shortest}
use Rattle.std.specs.Prelude.{Err}
use Rattle.questions.specs.declared.ActionError.{ActionError}
use Rattle.questions.specs.declared.ListingError.TheVariants.{Action}
use Rattle.questions.specs.Answers.{action_number}
use Rattle.questions.proofs.Listings.{refused_number}
use Rattle.self_inverse.specs.declared.SelfInverseError.TheVariants.{Listing}
use Rattle.self_inverse.specs.Answers.{figures_of_lem}
use Rattle.questions.proofs.Questions.{passed_size, then_passed, then_refused, list_passed, list_short, list_refused, list_small, reply_passed, reply_refused}
use Rattle.questions.proofs.Answered.{rows_wide}
use Rattle.self_inverse.specs.SelfInverse.{is_self_inverse, self_inverse_questions, self_inverse_reply}
use Rattle.self_inverse.specs.Promises.{chosen, AllCommute, Commuting, RankOrNext, Counted, OtherInverse, Seventeen}
use Rattle.self_inverse.proofs.Squares.{self_inverse_is, is_self_inverse_lem}
use Rattle.self_inverse.proofs.Counts.{CommutingList}

module _ (n : ℕ) (rows out : List ℕ) where
  abbrev F : List ℕ
  F = rows_of_words n rows

  abbrev first : ℕ
  first = list_questions n F (n + n + 1) (length out)

  abbrev questions : ℕ
  questions = self_inverse_questions n F (length out)

  -- what the contract says of an answer t that leaves the words `left`
  abbrev pub Met : List ℕ → Figures → Type 0
  Met left t =
      let reply = self_inverse_reply n rows (chosen n left t) out in
      (t ≡ reply.figures)
      × ((left ≡ reply.words)
      × (Replays n rows left t × (Shortest n rows t × (Commuting n left t × (Counted n rows t × Seventeen n rows out t)))))

  -- ---- number 17

  not_so : (b : Bool) → (b ≡ true → ⊥) → b ≡ false
  not_so true h = absurd (h refl)
  not_so false h = refl

  not_inverse : (matmul F F ≡ units (n + n) → ⊥) → is_self_inverse n F ≡ false
  not_inverse h = not_so (is_self_inverse n F) (λ e. h (self_inverse_is n F e))

  early_questions : (k : ℕ) → first ≡ suc k → questions ≡ suc k
  unfolding self_inverse_questions
  early_questions k e = then_refused first (ask (is_self_inverse n F) 17 0) k e

  late_questions : (b : Bool) → first ≡ 0 → is_self_inverse n F ≡ b → questions ≡ ask b 17 0
  unfolding self_inverse_questions
  late_questions b e s = then_passed first (ask (is_self_inverse n F) 17 0) e ∙ ap (λ t. ask t 17 0) s

  other_of : (q f : ℕ) (b : Bool) → first ≡ f → is_self_inverse n F ≡ b → questions ≡ q → q ≡ 17 → OtherInverse n rows out
  other_of q (suc k) b e s a z = absurd (omega (arith, early_questions k e, list_small n F (n + n + 1) (length out)))
  other_of q zero true e s a z = absurd (omega (arith, late_questions true e s))
  other_of q zero false e s a z = (e, λ m. true≢false (sym (is_self_inverse_lem n F m) ∙ s))

  seventeen : (q : ℕ) → questions ≡ q → (q ≡ 17 → OtherInverse n rows out) × (OtherInverse n rows out → q ≡ 17)
  seventeen q a = (other_of q first (is_self_inverse n F) refl refl a, λ o. sym a ∙ late_questions false o.0 (not_inverse o.1))

  -- ---- refusals

  refused_met : (k : ℕ) → questions ≡ suc k → Met out (nothing_listed_lem (suc k))
  unfolding self_inverse_reply
  refused_met k e =
      let r = reply_refused questions k out (listed n (chosen n out (nothing_listed_lem (suc k))) 0 out) e in (
        sym (ap (λ (t : Reply). t.figures) r),
        (
          sym (ap (λ (t : Reply). t.words) r),
          (λ z. absurd (omega arith), (λ z. absurd (omega arith), (λ z. absurd (omega arith), (λ z. absurd (omega arith), seventeen (suc k) e)))),
        ),
      )

  -- by the first question of the action that is answered no
  pub met_early : (e : ActionError) → action_number e ≡ action_questions_lem n F → Met out (figures_of_lem (Err (Listing (Action e))))
  met_early e a =
      let k = refused_number e in
      subst (Met out) (ap nothing_listed_lem (sym k.1)) (refused_met k.0 (early_questions k.0 (list_refused n F (n + n + 1) (length out) k.0 (sym a ∙ k.1))))

  module _ (passed : action_questions_lem n F ≡ 0) where
    -- by the fifth
    pub met_short : length out < n + n + 1 → Met out (nothing_listed_lem 5)
    met_short l = refused_met 4 (early_questions 4 (list_short n F (n + n + 1) (length out) passed l))

    module _ (room : n + n + 1 ≤ length out) where
      whole : first ≡ 0
      whole = list_passed n F (n + n + 1) (length out) passed room

      -- by the seventeenth
      pub met_other : is_self_inverse n F ≡ false → Met out (nothing_listed_lem 17)
      met_other e = refused_met 16 (late_questions false whole e)

      -- ---- the list laid into the words

      pub met_answer : is_self_inverse n F ≡ true → (vs : List ℕ) → CommutingList n F vs → (count : ℕ) (left : List ℕ) → count ≡ length vs → left ≡ laid n vs out
          → Met left (record { number = 0; count = count; looks = 0 })
      unfolding self_inverse_reply
      met_answer inverse vs c count left e l =
          let t : Figures = record { number = 0; count = count; looks = 0 } in
          let a = late_questions true whole inverse in
          let is : chosen n left t ≡ vs =
          ap₂ (λ (k : ℕ) (w : List ℕ). take k (rows_of_words n w)) e l
          ∙ laid_front n (rows_wide {n = n} (passed_size n F passed)) vs out c.fits (let r = c.room in omega arith) in
          let r = reply_passed questions out (listed n (chosen n left t) 0 out) a in (
            ap (λ (k : ℕ). record { number = 0; count = k; looks = 0 }) (e ∙ sym (ap length is)) ∙ sym (ap (λ (x : Reply). x.figures) r),
            (
              l ∙ ap (λ (w : List ℕ). laid n w out) (sym is) ∙ sym (ap (λ (x : Reply). x.words) r),
              (
                λ z. ap (product n) is ∙ c.replays,
                (λ z ws h p. subst (λ (k : ℕ). k ≤ length ws) (sym e) (c.least ws h p), (λ z. subst (AllCommute n) (sym is) c.commuting, (λ z. subst (λ (k : ℕ). RankOrNext n F k) (sym e) c.counted, seventeen 0 a))),
              ),
            ),
          )

-- ---- the figures of a reply

plain : (asked n : ℕ) (vs out : List ℕ) → let t = (unless_refused asked out (listed n vs 0 out)).figures in (t.looks ≡ 0) × ((k : ℕ) → t.number ≡ suc k → t ≡ nothing_listed_lem (suc k))
plain zero n vs out = (refl, λ k e. absurd (omega arith))
plain (suc j) n vs out = (refl, λ k e. ap nothing_listed_lem e)

-- there are no looks, and a refusal lists nothing
pub met_figures : (n : ℕ) (rows out left : List ℕ) (t : Figures) → Met n rows out left t → (t.looks ≡ 0) × ((k : ℕ) → t.number ≡ suc k → t ≡ nothing_listed_lem (suc k))
unfolding self_inverse_reply
met_figures n rows out left t m =
    subst (λ (x : Figures). (x.looks ≡ 0) × ((k : ℕ) → x.number ≡ suc k → x ≡ nothing_listed_lem (suc k))) (sym m.0) (plain (self_inverse_questions n (rows_of_words n rows) (length out)) n (chosen n left t) out)
