-- The choice between two lists, by which of them matches and which is shorter, as the code comes to it; and the reply of a call.
-- Assumes nothing.
use mathlib.Core.Path.{◌≡◌, refl, sym, ap, ap₂, ◌∙◌}
use mathlib.Core.Bool.{Bool, true, false}
use mathlib.Core.List.{List}
use Prim.Native.Nat.{ℕ, suc}
use lib.Dec.{ltb}
use lib.ListN.{length}
use Rattle.std.specs.Prelude.{Err}
use Rattle.questions.specs.declared.ActionError.{ActionError}
use Rattle.questions.specs.Answers.{action_number}
use Rattle.questions.proofs.Listings.{refused_number}
use Rattle.shorter.specs.declared.ShorterError.TheVariants.{Action}
use Rattle.shorter.specs.Answers.{chosen_of}
use Rattle.blocks.specs.Words.{rows_of_words}
use Rattle.questions.specs.Replies.{action_questions_lem}
use Rattle.symplectic.specs.Matches.{matches}
use Rattle.shorter.specs.Shorter.{chosen, nothing_chosen, preferred, chosen_unless, shorter_of_lem, shorter_reply}

-- ---- the choice

module _ (n : ℕ) (F vs ws : List ℕ) where
  abbrev shorter : Bool
  shorter = ltb (length ws) (length vs)

  cases : (a b s : Bool) → matches n F vs ≡ a → matches n F ws ≡ b → shorter ≡ s → preferred a b s ≡ shorter_of_lem n F vs ws
  unfolding shorter_of_lem
  cases a b s p q r = sym (ap₂ (λ x y. preferred x y shorter) p q ∙ ap (preferred a b) r)

  -- the second is shorter and matches
  pub shorter_second : ltb (length ws) (length vs) ≡ true → matches n F ws ≡ true → chosen 2 ≡ shorter_of_lem n F vs ws
  shorter_second r q = go (matches n F vs) refl
    where
      go : (a : Bool) → matches n F vs ≡ a → chosen 2 ≡ shorter_of_lem n F vs ws
      go true p = cases true true true p q r
      go false p = cases false true true p q r

  -- the first matches, and the second is no shorter
  pub first_matches : ltb (length ws) (length vs) ≡ false → matches n F vs ≡ true → chosen 1 ≡ shorter_of_lem n F vs ws
  first_matches r p = go (matches n F ws) refl
    where
      go : (b : Bool) → matches n F ws ≡ b → chosen 1 ≡ shorter_of_lem n F vs ws
      go true q = cases true true false p q r
      go false q = cases true false false p q r

  -- one of them matches
  pub first_alone : matches n F vs ≡ true → matches n F ws ≡ false → chosen 1 ≡ shorter_of_lem n F vs ws
  first_alone p q = cases true false shorter p q refl

  pub second_alone : matches n F vs ≡ false → matches n F ws ≡ true → chosen 2 ≡ shorter_of_lem n F vs ws
  second_alone p q = cases false true shorter p q refl

  pub neither_matches : matches n F vs ≡ false → matches n F ws ≡ false → nothing_chosen 14 ≡ shorter_of_lem n F vs ws
  neither_matches p q = cases false false shorter p q refl

-- ---- the reply

-- by the number of the action's question that is answered no, 0 where all are passed
pub reply_asked : (n : ℕ) (rows first second : List ℕ) (k : ℕ) → action_questions_lem n (rows_of_words n rows) ≡ k
    → chosen_unless k (shorter_of_lem n (rows_of_words n rows) (rows_of_words n first) (rows_of_words n second)) ≡ shorter_reply n rows first second
unfolding shorter_reply
reply_asked n rows first second k e =
    sym (ap (λ (q : ℕ). chosen_unless q (shorter_of_lem n (rows_of_words n rows) (rows_of_words n first) (rows_of_words n second))) e)

-- by the first question of the action that is answered no
pub reply_early : (n : ℕ) (rows first second : List ℕ) (e : ActionError) → action_number e ≡ action_questions_lem n (rows_of_words n rows)
    → chosen_of (Err (Action e)) ≡ shorter_reply n rows first second
reply_early n rows first second e a =
    let k = refused_number e in ap nothing_chosen k.1 ∙ reply_asked n rows first second (suc k.0) (sym a ∙ k.1)
