-- What the questions of a gate answer, and of a sequence: each refusal in its turn, gate by gate, and what is known where all are passed.
-- Assumes nothing.
use mathlib.Core.Path.{◌≡◌, refl, sym, ap, ap₂, ◌∙◌}
use mathlib.Core.Bool.{Bool, true, false, ◌&&◌, ◌||◌, not}
use mathlib.Core.List.{List, [], ◌∷◌, map}
use Prim.Native.Nat.{ℕ, zero, suc, ◌+◌, ◌*◌, ◌/◌, ◌<◌}
use native.Mathlib.Nat.{le_of_suc-le-suc, not-suc-le-zero}
use native.Mathlib.Omega.{arith}
use Rattle.std.specs.Simd.{first_chunks}
use lib.Dec.{ltb, eqb}
use lib.ListN.{length, get_or, drop, length-drop}
use lib.Seq.{drop-cons, get_or-take, get_or-drop}
use borrow.Author.Tests.{ltb-true}
use Rattle.binar.specs.Bits.{digit}
use Rattle.blocks.specs.Matrices.{units}
use Rattle.symplectic.specs.Turns.{followed_by, product}
use Rattle.questions.specs.Replies.{ask, and_then}
use Rattle.symplectic.proofs.Products.{followed_by_append, product_nil, product_append}
use Rattle.questions.proofs.Questions.{ask_passed, then_passed, then_refused}
use Rattle.sheets.specs.Sheets.{Gate}
use Rattle.gates.specs.Sequences.{turn_vector_lem, gate, reads_two, gate_questions, sequence_questions, sequence_turns}

-- ---- a gate

module _ (n a b : ℕ) where
  pub unknown_gate : (two : Bool) → gate_questions n false two a b ≡ 9
  unfolding gate_questions
  unknown_gate two = refl

  -- what is known of a gate that passed
  pub gate_known : (there two : Bool) → gate_questions n there two a b ≡ 0 → (there ≡ true) × (a < n) × (two ≡ true → b < n)
  unfolding gate_questions
  gate_known there two e =
      let known = ask_passed there 8 _ e in
      let low = (ask_passed (ltb a n && (not two || ltb b n)) 9 (ask (not two || not (eqb a b)) 11 0) known.1).0 in
      let parts = both (ltb a n) two (ltb b n) low in
      (known.0, ltb-true a n parts.0, λ s. ltb-true b n (parts.1 s))
    where
      both : (s t u : Bool) → s && (not t || u) ≡ true → (s ≡ true) × (t ≡ true → u ≡ true)
      both true true u p = (refl, λ q. p)
      both true false u p = (refl, λ q. absurd (omega (arith, ap digit q)))
      both false t u p = absurd (omega (arith, ap digit p))

-- ---- a sequence

-- bytes short of a whole gate
short_questions : (n : ℕ) (gates : List Gate) (l : List ℕ) → length l < 3 → sequence_questions n gates l ≡ 0
unfolding sequence_questions
short_questions n gates [] h = refl
short_questions n gates (g ∷ []) h = refl
short_questions n gates (g ∷ a ∷ []) h = refl
short_questions n gates (g ∷ a ∷ b ∷ l) h = absurd (omega arith)

short_turns : (n : ℕ) (gates : List Gate) (l : List ℕ) → length l < 3 → sequence_turns n gates l ≡ []
unfolding sequence_turns
short_turns n gates [] h = refl
short_turns n gates (g ∷ []) h = refl
short_turns n gates (g ∷ a ∷ []) h = refl
short_turns n gates (g ∷ a ∷ b ∷ l) h = absurd (omega arith)

-- the next three bytes
module _ (l : List ℕ) (j : ℕ) (h : j + 2 < length l) where
  three : drop j l ≡ get_or l j 0 ∷ get_or l (j + 1) 0 ∷ get_or l (j + 2) 0 ∷ drop (j + 3) l
  three =
      next j (j + 1) (omega arith) (omega arith)
      ∙ ap (λ (m : List ℕ). get_or l j 0 ∷ m)
      (next (j + 1) (j + 2) (omega arith) (omega arith) ∙ ap (λ (m : List ℕ). get_or l (j + 1) 0 ∷ m) (next (j + 2) (j + 3) (omega arith) (omega arith)))
    where
      next : (i k : ℕ) → k ≡ suc i → i < length l → drop i l ≡ get_or l i 0 ∷ drop k l
      next i k e b = drop-cons l i 0 b ∙ ap (λ (m : ℕ). get_or l i 0 ∷ drop m l) (sym e)

-- the questions of a gate by its three bytes, and its turns
abbrev pub asked_of : ℕ → List Gate → ℕ → ℕ → ℕ → ℕ
asked_of n gates g a b = gate_questions n (ltb g (length gates)) (reads_two (gate gates g)) a b

abbrev pub turns_of : ℕ → List Gate → ℕ → ℕ → ℕ → List ℕ
turns_of n gates g a b = map (turn_vector_lem n a b) (gate gates g).turns

-- of the gate at byte j
abbrev pub asked_at : ℕ → List Gate → List ℕ → ℕ → ℕ
asked_at n gates l j = asked_of n gates (get_or l j 0) (get_or l (j + 1) 0) (get_or l (j + 2) 0)

abbrev pub turns_at : ℕ → List Gate → List ℕ → ℕ → List ℕ
turns_at n gates l j = turns_of n gates (get_or l j 0) (get_or l (j + 1) 0) (get_or l (j + 2) 0)

-- byte j of chunk i
chunk_at : (k i j : ℕ) (l : List ℕ) → i < k → j < 3 → get_or (get_or (first_chunks 3 k l) i []) j 0 ≡ get_or l (i * 3 + j) 0
chunk_at zero i j l h g = absurd (not-suc-le-zero h)
chunk_at (suc k) zero j l h g = get_or-take 3 l j 0 g ∙ ap (λ (m : ℕ). get_or l m 0) (omega arith)
chunk_at (suc k) (suc i) j l h g =
    chunk_at k i j (drop 3 l) (le_of_suc-le-suc h) g ∙ get_or-drop 3 l (i * 3 + j) 0 ∙ ap (λ (m : ℕ). get_or l m 0) (omega arith)

-- what is computed from the three bytes of chunk i
pub of_chunk : {A : Type 0} (f : ℕ → ℕ → ℕ → A) (chunks : List (List ℕ)) (l : List ℕ) (i : ℕ) → chunks ≡ first_chunks 3 (length l / 3) l → i < length l / 3
    → f (get_or (get_or chunks i []) 0 0) (get_or (get_or chunks i []) 1 0) (get_or (get_or chunks i []) 2 0) ≡ f (get_or l (i * 3) 0) (get_or l (i * 3 + 1) 0) (get_or l (i * 3 + 2) 0)
of_chunk f chunks l i is h =
    let read : (j : ℕ) → j < 3 → get_or (get_or chunks i []) j 0 ≡ get_or l (i * 3 + j) 0 = λ j g. ap (λ (c : List (List ℕ)). get_or (get_or c i []) j 0) is ∙ chunk_at (length l / 3) i j l h g in
    let zero_read : get_or (get_or chunks i []) 0 0 ≡ get_or l (i * 3) 0 = read 0 (omega arith) ∙ ap (λ (m : ℕ). get_or l m 0) (omega arith) in
    ap (λ (g : ℕ). f g (get_or (get_or chunks i []) 1 0) (get_or (get_or chunks i []) 2 0)) zero_read
    ∙ ap₂ (f (get_or l (i * 3) 0)) (read 1 (omega arith)) (read 2 (omega arith))

-- the gates up to byte j are passed, and their turns have made F
abbrev pub Upto : ℕ → List Gate → List ℕ → ℕ → List ℕ → Type 0
Upto n gates l j F =
    (sequence_questions n gates (drop j l) ≡ sequence_questions n gates l) × (followed_by n F (sequence_turns n gates (drop j l)) ≡ product n (sequence_turns n gates l))

module _ (n : ℕ) (gates : List Gate) (l : List ℕ) where
  pub upto_none : (F : List ℕ) → F ≡ units (n + n) → Upto n gates l 0 F
  upto_none F e =
      (refl, ap (λ (x : List ℕ). followed_by n x (sequence_turns n gates l)) (e ∙ sym (product_nil n)) ∙ sym (product_append n [] (sequence_turns n gates l)))

  module _ (j : ℕ) (F : List ℕ) (upto : Upto n gates l j F) where
    -- bytes short of a whole gate are left
    pub upto_all : length l < j + 3 → (sequence_questions n gates l ≡ 0) × (F ≡ product n (sequence_turns n gates l))
    upto_all h =
        let few : length (drop j l) < 3 = omega (arith, length-drop j l) in
        (sym upto.0 ∙ short_questions n gates (drop j l) few, ap (followed_by n F) (sym (short_turns n gates (drop j l) few)) ∙ upto.1)

    module _ (h : j + 2 < length l) where
      next_questions : and_then (asked_at n gates l j) (sequence_questions n gates (drop (j + 3) l)) ≡ sequence_questions n gates l
      unfolding sequence_questions
      next_questions = sym (ap (sequence_questions n gates) (three l j h)) ∙ upto.0

      -- the next gate is refused
      upto_refused : (k : ℕ) → asked_at n gates l j ≡ suc k → sequence_questions n gates l ≡ suc k
      upto_refused k e = sym next_questions ∙ then_refused (asked_at n gates l j) (sequence_questions n gates (drop (j + 3) l)) k e

      pub upto_first : (v k : ℕ) → v ≡ suc k → v ≡ asked_at n gates l j → v ≡ sequence_questions n gates l
      upto_first v k e a = e ∙ sym (upto_refused k (sym a ∙ e))

      -- the next gate is passed, and its turns are made
      pub upto_next : (G : List ℕ) → asked_at n gates l j ≡ 0 → G ≡ followed_by n F (turns_at n gates l j) → Upto n gates l (j + 3) G
      unfolding sequence_turns
      upto_next G e made =
          let rest = sequence_turns n gates (drop (j + 3) l) in (
            sym (then_passed (asked_at n gates l j) (sequence_questions n gates (drop (j + 3) l)) e) ∙ next_questions,
            ap (λ (x : List ℕ). followed_by n x rest) made
                ∙ sym (followed_by_append n F (turns_at n gates l j) rest) ∙ ap (followed_by n F) (sym (ap (sequence_turns n gates) (three l j h))) ∙ upto.1,
          )
