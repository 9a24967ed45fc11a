-- The three ends of a minimal call, and what a reply that has one of them says, by its number.
-- Assumes nothing.
use mathlib.Core.Path.{◌≡◌, sym, ap, ap₂, ◌∙◌}
use mathlib.Core.Bool.{Bool, cond}
use mathlib.Core.List.{List}
use mathlib.Core.Logic.{◌⊎◌, inl, inr, ⊎_elim}
use Prim.Native.Nat.{ℕ, suc, ◌+◌, ◌≤◌, ◌<◌}
use native.Mathlib.Omega.{arith}
use native.Mathlib.Nat.{le_trans}
use lib.Dec.{eqb}
use lib.ListN.{length, take}
use borrow.Author.Tests.{eq-eqb, ne_eqb}
use Rattle.blocks.specs.Words.{rows_of_words}
use Rattle.blocks.proofs.Values.{laid_front}
use Rattle.symplectic.specs.Sizes.{max_qubits}
use Rattle.questions.specs.Replies.{Reply, refused, listed}
use Rattle.questions.proofs.Answered.{rows_wide}
use Rattle.transvection_exact.proofs.Shortest.{ShortestList, shortest_room}

-- asked: the number of the questions 1 to 5; looks: those of the search without a budget
pub data Ends (n : ℕ) (F : List ℕ) (asked budget looks : ℕ) (out : List ℕ) (r : Reply) : Type 0 where
  -- one of the questions 1 to 5
  early : (k : ℕ) → asked ≡ suc k → k < 5 → r ≡ refused (suc k) 0 out → Ends n F asked budget looks out r
  -- 6: the search takes a look beyond the budget
  beyond : asked ≡ 0 → budget < looks → r ≡ refused 6 budget out → Ends n F asked budget looks out r
  -- an answer, for which there is room
  answered : (vs : List ℕ) → asked ≡ 0 → looks ≤ budget → n ≤ max_qubits → n + n + 1 ≤ length out → length F ≡ n + n → ShortestList n F vs → r ≡ listed n vs looks out
      → Ends n F asked budget looks out r

-- ---- what a reply that has one of them says

module _ (n : ℕ) (F : List ℕ) (asked budget looks : ℕ) (out : List ℕ) (r : Reply) where
  -- the number of a refusal is the one that it has
  is_number : (k m l : ℕ) → r ≡ refused k l out → r.figures.number ≡ m → k ≡ m
  is_number k m l e z = sym (ap (λ (t : Reply). t.figures.number) e) ∙ z

  is_listed : (vs : List ℕ) (m : ℕ) → r ≡ listed n vs looks out → r.figures.number ≡ m → 0 ≡ m
  is_listed vs m e z = sym (ap (λ (t : Reply). t.figures.number) e) ∙ z

  -- what an answer has laid out
  pub record Answer : Type 0 where
    pub list : List ℕ
    pub passed : asked ≡ 0
    pub ended : looks ≤ budget
    pub few : n ≤ max_qubits
    pub lent : n + n + 1 ≤ length out
    pub rows : length F ≡ n + n
    pub shortest : ShortestList n F list
    pub is : r ≡ listed n list looks out

  pub answer : Ends n F asked budget looks out r → r.figures.number ≡ 0 → Answer
  answer (early k a s e) z = absurd (omega (arith, is_number (suc k) 0 0 e z))
  answer (beyond a s e) z = absurd (omega (arith, is_number 6 0 budget e z))
  answer (answered vs a s f l k h e) z = record { list = vs; passed = a; ended = s; few = f; lent = l; rows = k; shortest = h; is = e }

  module _ (a : Answer) where
    pub count_is : r.figures.count ≡ length a.list
    count_is = ap (λ (t : Reply). t.figures.count) a.is

    pub looks_are : r.figures.looks ≡ looks
    looks_are = ap (λ (t : Reply). t.figures.looks) a.is

    pub taken_is : take r.figures.count (rows_of_words n r.words) ≡ a.list
    taken_is =
        ap₂ (λ (k : ℕ) (w : List ℕ). take k (rows_of_words n w)) count_is (ap (λ (t : Reply). t.words) a.is)
        ∙ laid_front n (rows_wide a.few) a.list out a.shortest.fits (le_trans (shortest_room n F a.rows a.list a.shortest) a.lent)

  -- a refusal as a caller reads it: it lists nothing, and its looks are 0, at 6 the budget
  pub refusal_of : Ends n F asked budget looks out r → (k : ℕ) → r.figures.number ≡ suc k → r ≡ refused (suc k) (cond (eqb (suc k) 6) budget 0) out
  refusal_of (early j a s e) k z =
      let same = is_number (suc j) (suc k) 0 e z in
      e ∙ ap₂ (λ (m l : ℕ). refused m l out) same (ap (λ (b : Bool). cond b budget 0) (sym (ne_eqb (suc k) 6 (λ q. omega arith))))
  refusal_of (beyond a s e) k z =
      let same = is_number 6 (suc k) budget e z in
      e ∙ ap₂ (λ (m l : ℕ). refused m l out) same (ap (λ (b : Bool). cond b budget 0) (sym (eq-eqb (suc k) 6 (sym same))))
  refusal_of (answered vs a s f l m h e) k z = absurd (omega (arith, is_listed vs (suc k) e z))

  refusal_looks : (k l : ℕ) → r ≡ refused k l out → r.figures.looks ≡ l
  refusal_looks k l e = ap (λ (t : Reply). t.figures.looks) e

  pub spent_of : Ends n F asked budget looks out r → r.figures.number ≡ 6 → (asked ≡ 0) × (budget < looks) × (r.figures.looks ≡ budget)
  spent_of (early k a s e) z = absurd (omega (arith, is_number (suc k) 6 0 e z))
  spent_of (beyond a s e) z = (a, s, refusal_looks 6 budget e)
  spent_of (answered vs a s f l k h e) z = absurd (omega (arith, is_listed vs 6 e z))

  pub of_spent : Ends n F asked budget looks out r → asked ≡ 0 → budget < looks → r.figures.number ≡ 6
  of_spent (early k a s e) z l = absurd (omega arith)
  of_spent (beyond a s e) z l = ap (λ (t : Reply). t.figures.number) e
  of_spent (answered vs a s f m k h e) z l = absurd (omega arith)

  -- of the questions 1 to 5 only the last was answered no: an answer, or 5 or 6
  pub number_of : Ends n F asked budget looks out r → (asked ≡ 0) ⊎ (asked ≡ 5) → (r.figures.number ≡ 0) ⊎ ((r.figures.number ≡ 5) ⊎ (r.figures.number ≡ 6))
  number_of (early k a s e) z =
      inr (inl (ap (λ (t : Reply). t.figures.number) e ∙ sym a ∙ ⊎_elim (λ (q : asked ≡ 0). absurd (omega arith)) (λ (q : asked ≡ 5). q) z))
  number_of (beyond a s e) z = inr (inr (ap (λ (t : Reply). t.figures.number) e))
  number_of (answered vs a s f l k h e) z = inl (ap (λ (t : Reply). t.figures.number) e)
