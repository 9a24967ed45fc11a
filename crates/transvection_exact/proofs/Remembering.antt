-- The minimal call with a lent memory: its list is as short, it stands beside document 01's call, and with room for no entry it is that call.
-- Assumes nothing.
use mathlib.Core.Path.{◌≡◌, refl, sym, ap, ◌∙◌, subst, subst₂}
use mathlib.Core.Bool.{Bool, true, false, cond}
use mathlib.Core.List.{List, []}
use Prim.Native.Nat.{ℕ, zero, suc, ◌+◌, ◌≤◌}
use native.Mathlib.Nat.{le_refl}
use native.Mathlib.Omega.{arith}
use lib.Dec.{leb, eqb}
use lib.ListN.{length}
use borrow.Author.Tests.{leb-true, leb-false}
use Rattle.blocks.specs.Matrices.{units, All}
use Rattle.blocks.specs.Words.{rows_in_lem, rows_of_words, over, laid}
use Rattle.blocks.proofs.Overs.{over_nil}
use Rattle.blocks.proofs.Units.{units_length, units_lt}
use Rattle.linear.specs.Maps.{Form}
use Rattle.linear.proofs.Instances.{𝕎}
use Rattle.symplectic.specs.Sizes.{max_qubits}
use Rattle.symplectic.specs.NoneShorter.{LeastLength}
use Rattle.questions.specs.declared.Figures.{Figures}
use Rattle.questions.specs.Replies.{Reply, refused, unless_refused, action_questions_lem, list_questions, Replays, Shortest}
use Rattle.questions.proofs.Questions.{list_refused}
use Rattle.questions.proofs.Answered.{Meets, Holds}
use Rattle.residue.specs.Residue.{basis, core, form}
use Rattle.residue.proofs.Forms.{form_of}
use Rattle.triangular.specs.Readings.{core_in}
use Rattle.triangular.specs.Search.{Outcome, found, failed, looks_of, Verdict, ended, ended_if, budgeted}
use Rattle.triangular.specs.Memory.{Entry, Remembered, search_with, searched_core, known_within}
use Rattle.triangular.proofs.Complete.{Right}
use Rattle.triangular.proofs.Budgets.{budgeted_is}
use Rattle.triangular.proofs.Entries.{known_nil}
use Rattle.triangular.proofs.Remembers.{Dead, Follows, remembers, plain_search}
use Rattle.memory.specs.Entries.{memory_words, room_in}
use Rattle.memory.proofs.Kept.{room_none, words_none}
use Rattle.family.specs.Family.{times_basis}
use Rattle.transvection_exact.specs.Minimal.{core_search, core_search_with, searched_reply, minimal_reply, remembering_reply, unless_asked, memory_left}
use Rattle.transvection_exact.specs.Answers.{ExactWith, AsWithout, EveryLayer, Plainly}
use Rattle.transvection_exact.proofs.Shortest.{RightOf, core_right}
use Rattle.transvection_exact.proofs.Replies.{reply_refused, answered_least}
use Rattle.transvection_exact.proofs.Answered.{call_shortest, call_refused, call_searched}
use Rattle.transvection_exact.proofs.Outcomes.{of_core}

-- ---- a search x with the entries M beside document 01's, y

module _ (E : Form 𝕎) (m : ℕ) where
  follows_right : (d : ℕ) (bs : List ℕ) (x : Outcome) (M : List Entry) (y : Outcome) → Follows E m x M y → Right E d bs y → Right E d bs x
  follows_right d bs (found ps l) M (found qs k) f h = subst (λ (t : List ℕ). Right E d bs (found t l)) (sym f.0) h
  follows_right d bs (found ps l) M (failed k) f h = absurd f.0
  follows_right d bs (failed l) M (found qs k) f h = absurd f.0
  follows_right d bs (failed l) M (failed k) f h = h

-- ---- the search on the core of an action

module _ (n : ℕ) (F : List ℕ) where
  module _ (room : ℕ) where
    follows : let s = core_search_with n F room in Follows (form_of (core n F)) (length (basis n F)) s.outcome s.memory (core_search n F)
    unfolding core_search core_search_with
    follows = let r = length (basis n F) in remembers (form_of (core n F)) room r r (units r) (units_length r) (units_lt r)

    -- what an entry means: no triangular basis of that space exists
    pub entries_dead : All (Dead (form_of (core n F)) (length (basis n F))) (core_search_with n F room).memory
    entries_dead = follows.2

    pub remembered_right : RightOf n F (core_search_with n F room).outcome
    remembered_right =
        let r = length (basis n F) in
        let s = core_search_with n F room in
        follows_right (form_of (core n F)) r r (units r) s.outcome s.memory (core_search n F) follows (core_right n F)

  -- with no room it is document 01's search
  pub plain_core : core_search_with n F 0 ≡ record { outcome = core_search n F; memory = [] }
  unfolding core_search core_search_with
  plain_core = let r = length (basis n F) in plain_search (form (core n F)) r r (units r) 0

  -- the search of the code, on words that hold the core
  pub same_core : length F ≡ n + n → n ≤ max_qubits → (w : List ℕ) → rows_in_lem w ≡ core n F → (room : ℕ) → searched_core (core_in w) room ≡ core_search_with n F room
  unfolding core_search_with
  same_core size small w is room = of_core n F size small w is (λ (E : List ℕ) (r : ℕ). search_with (form E) r room r (units r) 0 [])

-- ---- the reply beside document 01's

abbrev Beside : Reply → Reply → Type 0
Beside plain r = AsWithout plain r.words r.figures

beside_itself : (r : Reply) → Beside r r
beside_itself r = (λ z. z, (λ h. (refl, (refl, refl)), le_refl r.figures.looks))

module _ (n : ℕ) (F out : List ℕ) where
  beside_ended : (E : Form 𝕎) (m : ℕ) (x : Outcome) (M : List Entry) (y : Outcome) → Follows E m x M y
      → Beside (searched_reply n F (ended y) out) (searched_reply n F (ended x) out)
  beside_ended E m (found ps l) M (found qs k) f =
      let same = ap (times_basis n F) f.0 in
      (λ z. z, (λ h. (refl, (ap length same, ap (λ (vs : List ℕ). laid n vs out) same)), f.1))
  beside_ended E m (found ps l) M (failed k) f = absurd f.0
  beside_ended E m (failed l) M (found qs k) f = absurd f.0
  beside_ended E m (failed l) M (failed k) f = (λ z. z, (λ h. (refl, (refl, refl)), f.1))

  -- the budget is laid over both
  beside_budgeted : (budget : ℕ) (x y : Outcome) → looks_of x ≤ looks_of y → Beside (searched_reply n F (ended y) out) (searched_reply n F (ended x) out)
      → Beside (searched_reply n F (budgeted budget y) out) (searched_reply n F (budgeted budget x) out)
  beside_budgeted budget x y u h =
      subst₂ (λ (v w : Verdict). Beside (searched_reply n F w out) (searched_reply n F v out)) (sym (budgeted_is budget x)) (sym (budgeted_is budget y))
      (go (leb (looks_of x) budget) (leb (looks_of y) budget) refl refl)
    where
      go : (b c : Bool) → leb (looks_of x) budget ≡ b → leb (looks_of y) budget ≡ c
          → Beside (searched_reply n F (ended_if c y budget) out) (searched_reply n F (ended_if b x budget) out)
      go true true e g = h
      go true false e g = (λ z. refl, (λ k. absurd (k refl), omega (arith, leb-true (looks_of x) budget e)))
      go false true e g = absurd (omega (arith, leb-false (looks_of x) budget e, leb-true (looks_of y) budget g))
      go false false e g = beside_itself (refused 6 budget out)

module _ (n : ℕ) (rows : List ℕ) (budget : ℕ) (memory out : List ℕ) where
  abbrev matrix : List ℕ
  matrix = rows_of_words n rows

  abbrev asked : ℕ
  asked = list_questions n matrix (n + n + 1) (length out)

  abbrev mine : Remembered
  mine = core_search_with n matrix (room_in memory)

  -- the memory with the entries of a search put over it
  abbrev put_over : Remembered → List ℕ
  put_over s = over (memory_words (known_within budget s.memory)) memory

  pub as_without : AsWithout (minimal_reply n rows budget out) (remembering_reply n rows budget memory out).words (remembering_reply n rows budget memory out).figures
  unfolding minimal_reply remembering_reply
  as_without = go asked
    where
      plain : Reply
      plain = searched_reply n matrix (budgeted budget (core_search n matrix)) out

      other : Reply
      other = searched_reply n matrix (budgeted budget mine.outcome) out

      go : (k : ℕ) → Beside (unless_refused k out plain) (unless_refused k out other)
      go zero =
          let E = form_of (core n matrix) in
          let r = length (basis n matrix) in
          let f = follows n matrix (room_in memory) in
          beside_budgeted n matrix out budget mine.outcome (core_search n matrix) f.1
          (beside_ended n matrix out E r mine.outcome mine.memory (core_search n matrix) f)
      go (suc k) = beside_itself (refused (suc k) 0 out)

  -- ---- with room for no entry

  module _ (no_room : room_in memory ≡ 0) where
    searches_plainly : mine ≡ record { outcome = core_search n matrix; memory = [] }
    searches_plainly = ap (core_search_with n matrix) no_room ∙ plain_core n matrix

    replies_plainly : remembering_reply n rows budget memory out ≡ minimal_reply n rows budget out
    unfolding minimal_reply remembering_reply
    replies_plainly = ap (λ (s : Remembered). unless_refused asked out (searched_reply n matrix (budgeted budget s.outcome) out)) searches_plainly

    memory_kept : memory_left n rows budget memory out ≡ memory
    unfolding memory_left
    memory_kept =
        ap (λ (s : Remembered). unless_asked asked memory (put_over s)) searches_plainly
        ∙ ap (λ (l : List ℕ). unless_asked asked memory (over l memory)) (ap memory_words (known_nil budget) ∙ words_none) ∙ go asked
      where
        go : (k : ℕ) → unless_asked k memory (over [] memory) ≡ memory
        go zero = over_nil memory
        go (suc k) = refl

  -- whatever meets its reply, and leaves the memory that it says
  plainly_met : (left after : List ℕ) (t : Figures) → t ≡ (remembering_reply n rows budget memory out).figures → left ≡ (remembering_reply n rows budget memory out).words
      → after ≡ memory_left n rows budget memory out → Plainly (minimal_reply n rows budget out) memory after left t
  plainly_met left after t e l m few =
      let z = room_none memory few in
      (e ∙ ap (λ (r : Reply). r.figures) (replies_plainly z), (l ∙ ap (λ (r : Reply). r.words) (replies_plainly z), m ∙ memory_kept z))

  -- ---- the promise of the call

  abbrev pub PromisedWith : List ℕ → Figures → Type 0
  PromisedWith left t =
      Replays n rows left t × (Shortest n rows t × (ExactWith (room_in memory) n rows budget out t × (AsWithout (minimal_reply n rows budget out) left t × EveryLayer n rows t)))

  pub remembering_shortest : Holds PromisedWith (remembering_reply n rows budget memory out)
  unfolding remembering_reply
  remembering_shortest =
      let h = call_shortest n rows budget out mine.outcome (remembered_right n matrix (room_in memory)) in
      (h.0, (h.1.0, (h.1.1.0, (as_without, h.1.1.1))))

  -- the count of an answer is the least length
  pub remembering_least : (remembering_reply n rows budget memory out).figures.number ≡ 0 → LeastLength n (rows_of_words n rows) (remembering_reply n rows budget memory out).figures.count
  unfolding remembering_reply
  remembering_least = answered_least n rows budget out mine.outcome (remembered_right n matrix (room_in memory))

  -- a refusal as a caller reads it
  pub remembering_told : (k : ℕ) → (remembering_reply n rows budget memory out).figures.number ≡ suc k
      → (remembering_reply n rows budget memory out).figures ≡ (refused (suc k) (cond (eqb (suc k) 6) budget 0) out).figures
  unfolding remembering_reply
  remembering_told = reply_refused n rows budget out mine.outcome (remembered_right n matrix (room_in memory))

  -- the memory on a refusal by 1 to 5, and else
  memory_untouched : (k : ℕ) → asked ≡ suc k → memory ≡ memory_left n rows budget memory out
  unfolding memory_left
  memory_untouched k e = sym (ap (λ (q : ℕ). unless_asked q memory (put_over mine)) e)

  memory_entered : asked ≡ 0 → (after : List ℕ) → after ≡ put_over mine → after ≡ memory_left n rows budget memory out
  unfolding memory_left
  memory_entered e after is = is ∙ sym (ap (λ (q : ℕ). unless_asked q memory (put_over mine)) e)

  -- the whole contract, in its order: of the memory, the words and the figures that the call leaves
  abbrev pub MeetsWith : List ℕ → List ℕ → Figures → Type 0
  MeetsWith after left t =
      (t ≡ (remembering_reply n rows budget memory out).figures)
      × ((left ≡ (remembering_reply n rows budget memory out).words)
      × ((after ≡ memory_left n rows budget memory out)
      × (Replays n rows left t
      × (Shortest n rows t
      × (ExactWith (room_in memory) n rows budget out t
      × (AsWithout (minimal_reply n rows budget out) left t
      × (EveryLayer n rows t
      × Plainly (minimal_reply n rows budget out) memory after left t)))))))

  in_order : (after left : List ℕ) (t : Figures) → after ≡ memory_left n rows budget memory out → Meets PromisedWith (remembering_reply n rows budget memory out) left t
      → MeetsWith after left t
  in_order after left t e m =
      let p = m.1.1 in
      (m.0, (m.1.0, (e, (p.0, (p.1.0, (p.1.1.0, (p.1.1.1.0, (p.1.1.1.1, plainly_met left after t m.0 m.1.0 e))))))))

  -- one of the questions 1 to 5
  pub remembering_refused : (k : ℕ) (t : Figures) → list_questions n (rows_of_words n rows) (n + n + 1) (length out) ≡ suc k → t ≡ (refused (suc k) 0 out).figures
      → MeetsWith memory out t
  unfolding remembering_reply
  remembering_refused k t e s = in_order memory out t (memory_untouched k e) (call_refused n rows budget out mine.outcome PromisedWith remembering_shortest k t e s)

  -- one of those of the action
  pub remembering_early : (k : ℕ) (t : Figures) → action_questions_lem n (rows_of_words n rows) ≡ suc k → t ≡ (refused (suc k) 0 out).figures → MeetsWith memory out t
  remembering_early k t e = remembering_refused k t (list_refused n matrix (n + n + 1) (length out) k e)

  -- those are passed: what the search answers and enters
  pub remembering_searched : (after left : List ℕ) (t : Figures) → list_questions n (rows_of_words n rows) (n + n + 1) (length out) ≡ 0
      → t ≡ (searched_reply n (rows_of_words n rows) (budgeted budget (core_search_with n (rows_of_words n rows) (room_in memory)).outcome) out).figures
      → left ≡ (searched_reply n (rows_of_words n rows) (budgeted budget (core_search_with n (rows_of_words n rows) (room_in memory)).outcome) out).words
      → after ≡ over (memory_words (known_within budget (core_search_with n (rows_of_words n rows) (room_in memory)).memory)) memory
      → MeetsWith after left t
  unfolding remembering_reply
  remembering_searched after left t e s l m =
      in_order after left t (memory_entered e after m) (call_searched n rows budget out mine.outcome PromisedWith remembering_shortest left t e s l)
