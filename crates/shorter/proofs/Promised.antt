-- What holds of the reply: the part plays the action, neither list that does is shorter, the first comes at equal length, and 14 is
-- given exactly if neither plays it.
-- Assumes nothing.
use mathlib.Core.Path.{◌≡◌, refl, sym, ap, ap₂, ◌∙◌, subst}
use mathlib.Core.Bool.{Bool, true, false, true≢false}
use mathlib.Core.Logic.{◌⊎◌, inl, inr}
use mathlib.Core.List.{List, []}
use Prim.Native.Nat.{ℕ, zero, suc, ◌≤◌, ◌<◌}
use native.Mathlib.Omega.{arith}
use native.Mathlib.Nat.{le_refl}
use lib.Dec.{ltb, eqb}
use lib.ListN.{length}
use borrow.Author.Tests.{ltb-true, ltb-false, eq-eqb, ne_eqb}
use Rattle.binar.specs.Bits.{select}
use Rattle.blocks.specs.Words.{rows_of_words}
use Rattle.questions.specs.Replies.{action_questions_lem}
use Rattle.symplectic.specs.Matches.{matches}
use Rattle.symplectic.proofs.Matches.{matches_known, known_matches}
use Rattle.questions.proofs.Questions.{action_small}
use Rattle.shorter.specs.declared.Chosen.{Chosen}
use Rattle.shorter.specs.Shorter.{chosen, nothing_chosen, preferred, chosen_unless, shorter_of_lem, shorter_reply, part_of, place_of}
use Rattle.shorter.specs.Promises.{Plays, NoLonger, Played, NeitherShorter, FirstAtEqual, Neither}

-- ---- the part of each choice

module _ (first second : List ℕ) where
  pub part_first : (list : ℕ) → list ≡ 1 → first ≡ part_of list first second
  unfolding part_of
  part_first list e = sym (ap (λ (b : Bool). select (select [] (eqb list 2) second) b first) (eq-eqb list 1 e))

  pub part_second : (list : ℕ) → list ≡ 2 → second ≡ part_of list first second
  unfolding part_of
  part_second list e = sym (ap (λ (k : ℕ). select (select [] (eqb k 2) second) (eqb k 1) first) e)

  pub part_none : (list : ℕ) → (list ≡ 1 → ⊥) → (list ≡ 2 → ⊥) → [] ≡ part_of list first second
  unfolding part_of
  part_none list g h = sym (ap₂ (λ (a b : Bool). select (select [] a second) b first) (ne_eqb list 2 h) (ne_eqb list 1 g))

module _ {A : Type 0} (first second : A) (list : ℕ) where
  pub place_first : (list ≡ 2 → ⊥) → first ≡ place_of list first second
  unfolding place_of
  place_first h = sym (ap (λ (b : Bool). select first b second) (ne_eqb list 2 h))

  pub place_second : list ≡ 2 → second ≡ place_of list first second
  unfolding place_of
  place_second e = sym (ap (λ (b : Bool). select first b second) (eq-eqb list 2 e))

-- ---- what is promised

module _ (n : ℕ) (rows first second : List ℕ) where
  abbrev F : List ℕ
  F = rows_of_words n rows

  abbrev vs : List ℕ
  vs = rows_of_words n first

  abbrev ws : List ℕ
  ws = rows_of_words n second

  -- all that is promised of a part and a number
  abbrev pub Promised : List ℕ → ℕ → Type 0
  Promised part number =
      Played n rows first second part number × (NeitherShorter n rows first second part number × (FirstAtEqual n rows first second part number × Neither n rows first second number))

  -- and of a choice
  abbrev Kept : Chosen → Type 0
  Kept t = Promised (part_of t.list first second) t.number

  -- ---- the promises of each choice

  known : (list : List ℕ) → Plays n rows list → matches n F (rows_of_words n list) ≡ true
  known list p = known_matches n F (rows_of_words n list) p.0 p.1

  plays_first : matches n F vs ≡ true → (matches n F ws ≡ true → length vs ≤ length ws) → Kept (chosen 1)
  unfolding part_of
  plays_first p short = (
    λ z. (inl refl, matches_known n F vs p),
    (λ z. (λ h. le_refl (length vs), λ h. short (known second h)), (λ z h l. refl, (λ z. absurd (omega arith), λ u. absurd (u.1.0 (matches_known n F vs p))))),
  )

  plays_second : matches n F ws ≡ true → (matches n F vs ≡ true → length ws < length vs) → Kept (chosen 2)
  unfolding part_of
  plays_second q short = (
    λ z. (inr refl, matches_known n F ws q),
    (
      λ z. (λ h. omega (arith, short (known first h)), λ h. le_refl (length ws)),
      (λ z h l. absurd (omega (arith, l, short (known first h))), (λ z. absurd (omega arith), λ u. absurd (u.1.1 (matches_known n F ws q)))),
    ),
  )

  -- a number other than 0 promises what it says of 14 alone
  refuses : (k : ℕ) → Neither n rows first second (suc k) → Kept (nothing_chosen (suc k))
  refuses k h = (λ z. absurd (omega arith), (λ z. absurd (omega arith), (λ z. absurd (omega arith), h)))

  plays_neither : action_questions_lem n F ≡ 0 → matches n F vs ≡ false → matches n F ws ≡ false → Kept (nothing_chosen 14)
  plays_neither e p q =
      refuses 13 (λ z. (e, (λ h. true≢false (sym (known first h) ∙ p), λ h. true≢false (sym (known second h) ∙ q))), λ u. refl)

  not_asked : (k : ℕ) → action_questions_lem n F ≡ suc k → Kept (nothing_chosen (suc k))
  not_asked k e =
      refuses k (λ z. absurd (omega (arith, action_small n F)), λ u. absurd (omega (arith, u.0)))

  -- whichever list is preferred, or neither
  by_choice : action_questions_lem n F ≡ 0 → (a b s : Bool) → matches n F vs ≡ a → matches n F ws ≡ b → ltb (length ws) (length vs) ≡ s → Kept (preferred a b s)
  by_choice e true true true p q r = plays_second q (λ h. ltb-true (length ws) (length vs) r)
  by_choice e true true false p q r = plays_first p (λ h. ltb-false (length ws) (length vs) r)
  by_choice e true false s p q r = plays_first p (λ h. absurd (true≢false (sym h ∙ q)))
  by_choice e false true s p q r = plays_second q (λ h. absurd (true≢false (sym h ∙ p)))
  by_choice e false false s p q r = plays_neither e p q

  kept : Kept (shorter_reply n rows first second)
  unfolding shorter_reply shorter_of_lem
  kept = go (action_questions_lem n F) refl
    where
      go : (k : ℕ) → action_questions_lem n F ≡ k → Kept (chosen_unless k (preferred (matches n F vs) (matches n F ws) (ltb (length ws) (length vs))))
      go zero e = by_choice e (matches n F vs) (matches n F ws) (ltb (length ws) (length vs)) refl refl refl
      go (suc k) e = not_asked k e

  -- ---- a call that gives the reply

  module _ (t : Chosen) (is : t ≡ shorter_reply n rows first second) where
    -- by the part that it gives, and its place
    pub reply_part : {A : Type 0} (one two place : A) (part : List ℕ) → part ≡ part_of t.list first second → place ≡ place_of t.list one two
        → let reply = shorter_reply n rows first second in
        (part ≡ part_of reply.list first second) × ((place ≡ place_of reply.list one two) × ((t.number ≡ reply.number) × Promised part t.number))
    reply_part one two place part e l = (
      e ∙ ap (λ (x : Chosen). part_of x.list first second) is,
      (
        l ∙ ap (λ (x : Chosen). place_of x.list one two) is,
        (ap (λ (x : Chosen). x.number) is, subst (λ (p : List ℕ). Promised p t.number) (sym e) (subst Kept (sym is) kept)),
      ),
    )

    -- by a number that is the answer's list
    pub reply_list : (list : ℕ) → (t.number ≡ 0 → list ≡ t.list) → Promised (part_of list first second) t.number
    reply_list list e =
        let h = subst Kept (sym is) kept in
        let at : t.number ≡ 0 → part_of t.list first second ≡ part_of list first second = λ z. sym (ap (λ (k : ℕ). part_of k first second) (e z)) in (
          λ z. subst (λ (p : List ℕ). ((p ≡ first) ⊎ (p ≡ second)) × Plays n rows p) (at z) (h.0 z),
          (
            λ z. subst (λ (p : List ℕ). (Plays n rows first → NoLonger n p first) × (Plays n rows second → NoLonger n p second)) (at z) (h.1.0 z),
            (λ z f l. sym (at z) ∙ h.1.1.0 z f l, h.1.1.1),
          ),
        )
