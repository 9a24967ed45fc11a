-- What a call promises of its answer holds of the figures, or of the list, that are read off the returned number and the lent numbers.
-- Assumes nothing.
use mathlib.Core.Path.{◌≡◌, refl, sym, ap, ◌∙◌, subst}
use mathlib.Core.Bool.{Bool, true, false, cond}
use mathlib.Core.List.{List}
use Prim.Native.Nat.{ℕ, zero, suc}
use lib.Dec.{eqb}
use Rattle.questions.specs.declared.Figures.{Figures}
use Rattle.questions.specs.Replies.{Reply, nothing_listed_lem, Replays, Shortest}
use Rattle.questions.proofs.Answered.{Meets}
use Rattle.shorter.specs.declared.Chosen.{Chosen}
use Rattle.shorter.specs.Shorter.{shorter_reply, part_of}
use Rattle.shorter.proofs.Promised.{Promised as Chooses, reply_list}
use Rattle.self_inverse.specs.SelfInverse.{self_inverse_reply}
use Rattle.self_inverse.specs.Promises.{chosen, Commuting, Counted as RankCounted, Seventeen}
use Rattle.self_inverse.proofs.Replied.{Met, met_figures}
use Rattle.memory.specs.Entries.{room_in}
use Rattle.transvection_exact.specs.Answers.{ExactWith, AsWithout, EveryLayer}
use Rattle.transvection_exact.specs.Minimal.{minimal_reply, remembering_reply, memory_left}
use Rattle.transvection_exact.proofs.Remembering.{PromisedWith, MeetsWith, remembering_told}
use Rattle.questions.specs.Answers.{lent_number}
use Rattle.cabi.specs.Lent.{read_figures, PlainlyLent}

-- ---- a lent number

lent_answer : (r value before now : ℕ) → now ≡ lent_number r value before → r ≡ 0 → now ≡ value
lent_answer r value before now e z = e ∙ ap (λ (k : ℕ). lent_number k value before) z

-- ---- the figures read off them

-- those of a refusal
abbrev read_refusal : ℕ → ℕ → Figures
read_refusal budget number = record { number = number; count = 0; looks = cond (eqb number 6) budget 0 }

-- what holds of an answer, and of each refusal as it is read
reads : (P : Figures → Type 0) (budget r value drawn count looks : ℕ) → (r ≡ 0 → count ≡ value) → (r ≡ 0 → looks ≡ drawn) → P (record { number = r; count = value; looks = drawn })
    → ((k : ℕ) → r ≡ suc k → P (read_refusal budget (suc k))) → P (read_figures budget r count looks)
unfolding read_figures
reads P budget zero value drawn count looks c l h f =
    subst (λ (k : ℕ). P (record { number = 0; count = k; looks = looks })) (sym (c refl)) (subst (λ (k : ℕ). P (record { number = 0; count = value; looks = k })) (sym (l refl)) h)
reads P budget (suc k) value drawn count looks c l h f = f k refl

-- ---- whole contracts: of an answer t that meets its reply, and leaves the words `left` and the number `count`

-- of a call that tells no looks: number, words and count are the reply's, and the promise is kept
module _ (P : List ℕ → Figures → Type 0) (reply : Reply) (left : List ℕ) (t f : Figures) (is : t ≡ f) (before count : ℕ) (told : count ≡ lent_number t.number t.count before) where
  pub lent_counted : Meets (λ l u. P l (record { number = u.number; count = u.count; looks = 0 })) reply left f → ((k looks : ℕ) → P left (record { number = suc k; count = 0; looks = looks }))
      → (t.number ≡ reply.figures.number) × ((left ≡ reply.words) × ((count ≡ lent_number t.number reply.figures.count before) × P left (read_figures 0 t.number count 0)))
  lent_counted m refusal =
      let same = is ∙ m.0 in
      let h = subst (λ (u : Figures). P left (record { number = u.number; count = u.count; looks = 0 })) (sym is) m.1.1 in (
        ap (λ (u : Figures). u.number) same,
        (
          m.1.0,
          (
            told ∙ ap (λ (u : Figures). lent_number t.number u.count before) same,
            reads (P left) 0 t.number t.count 0 count 0 (lent_answer t.number t.count before count told) (λ z. refl) h (λ k e. refusal k (cond (eqb (suc k) 6) 0 0)),
          ),
        ),
      )

-- of a call that tells looks too: what is read is the reply's
module _ (budget : ℕ) (reply : Reply) (refusal : (k : ℕ) → reply.figures.number ≡ suc k → reply.figures ≡ read_refusal budget (suc k)) (t : Figures) (same : t ≡ reply.figures)
    (before count : ℕ) (told : count ≡ lent_number t.number t.count before) (earlier looks : ℕ) (drawn : looks ≡ lent_number t.number t.looks earlier) where
  counted : count ≡ lent_number t.number reply.figures.count before
  counted = told ∙ ap (λ (u : Figures). lent_number t.number u.count before) same

  looked : looks ≡ lent_number t.number reply.figures.looks earlier
  looked = drawn ∙ ap (λ (u : Figures). lent_number t.number u.looks earlier) same

  read_is : read_figures budget t.number count looks ≡ t
  read_is =
      reads (λ u. u ≡ t) budget t.number t.count t.looks count looks (lent_answer t.number t.count before count told) (lent_answer t.number t.looks earlier looks drawn) refl
      (λ k e. sym (same ∙ refusal k (sym (ap (λ (u : Figures). u.number) same) ∙ e)))

  module _ (P : List ℕ → Figures → Type 0) (left : List ℕ) where
    pub lent_drawn : (f : Figures) → t ≡ f → Meets P reply left f
        → (t.number ≡ reply.figures.number) × ((left ≡ reply.words) × ((count ≡ lent_number t.number reply.figures.count before)
        × ((looks ≡ lent_number t.number reply.figures.looks earlier) × P left (read_figures budget t.number count looks))))
    lent_drawn f is m =
        (ap (λ (u : Figures). u.number) same, (m.1.0, (counted, (looked, subst (P left) (sym (read_is ∙ is)) m.1.1))))

-- the whole contract of the minimal call with a memory
module _ (n : ℕ) (rows : List ℕ) (budget : ℕ) (memory out after left : List ℕ) (t f : Figures) (is : t ≡ f) (before count : ℕ) (told : count ≡ lent_number t.number t.count before) (earlier looks : ℕ)
    (drawn : looks ≡ lent_number t.number t.looks earlier) where
  pub lent_remembering : MeetsWith n rows budget memory out after left f → let reply = remembering_reply n rows budget memory out in let read = read_figures budget t.number count looks in
      (t.number ≡ reply.figures.number) × ((left ≡ reply.words) × ((after ≡ memory_left n rows budget memory out)
      × ((count ≡ lent_number t.number reply.figures.count before) × ((looks ≡ lent_number t.number reply.figures.looks earlier)
      × (Replays n rows left read × (Shortest n rows read × (ExactWith (room_in memory) n rows budget out read
      × (AsWithout (minimal_reply n rows budget out) left read
      × (EveryLayer n rows read × PlainlyLent (minimal_reply n rows budget out) memory after left t.number before count earlier looks)))))))))
  lent_remembering m =
      let p = m.1.1.1 in
      let h : PromisedWith n rows budget memory out left f = (p.0, (p.1.0, (p.1.1.0, (p.1.1.1.0, p.1.1.1.1.0)))) in
      let g = lent_drawn budget (remembering_reply n rows budget memory out) (remembering_told n rows budget memory out) t (is ∙ m.0) before count told earlier looks drawn
      (PromisedWith n rows budget memory out) left f is (m.0, (m.1.0, h)) in
      let q = g.1.1.1.1 in
      (g.0, (g.1.0, (m.1.1.0, (g.1.1.0, (g.1.1.1.0, (q.0, (q.1.0, (q.1.1.0, (q.1.1.1.0, (q.1.1.1.1, λ few. plain (p.1.1.1.1.1 few)))))))))))
    where
      plain : (f ≡ (minimal_reply n rows budget out).figures) × ((left ≡ (minimal_reply n rows budget out).words) × (after ≡ memory)) → let answer = (minimal_reply n rows budget out).figures in
          (t.number ≡ answer.number) × ((left ≡ (minimal_reply n rows budget out).words) × ((after ≡ memory)
          × ((count ≡ lent_number t.number answer.count before) × (looks ≡ lent_number t.number answer.looks earlier))))
      plain w =
          let same = is ∙ w.0 in (
            ap (λ (u : Figures). u.number) same,
            (w.1.0, (w.1.1, (told ∙ ap (λ (u : Figures). lent_number t.number u.count before) same, drawn ∙ ap (λ (u : Figures). lent_number t.number u.looks earlier) same))),
          )

-- of the call for self-inverse actions, whose reply has the list that is read
module _ (n : ℕ) (rows out left : List ℕ) (t f : Figures) (is : t ≡ f) (before count : ℕ) (told : count ≡ lent_number t.number t.count before) where
  pub lent_self_inverse : Met n rows out left f → let read = read_figures 0 t.number count 0 in let reply = self_inverse_reply n rows (chosen n left read) out in
      (t.number ≡ reply.figures.number) × ((left ≡ reply.words) × ((count ≡ lent_number t.number reply.figures.count before)
      × (Replays n rows left read × (Shortest n rows read × (Commuting n left read × (RankCounted n rows read × Seventeen n rows out read))))))
  lent_self_inverse m =
      subst (λ (u : Figures). let reply = self_inverse_reply n rows (chosen n left u) out in
      (t.number ≡ reply.figures.number) × ((left ≡ reply.words) × ((count ≡ lent_number t.number reply.figures.count before)
      × (Replays n rows left u × (Shortest n rows u × (Commuting n left u × (RankCounted n rows u × Seventeen n rows out u))))))) (sym (read_it ∙ is))
      (ap (λ (u : Figures). u.number) (is ∙ m.0), (m.1.0, (told ∙ ap (λ (u : Figures). lent_number t.number u.count before) (is ∙ m.0), m.1.1)))
    where
      known : (t.looks ≡ 0) × ((k : ℕ) → t.number ≡ suc k → t ≡ nothing_listed_lem (suc k))
      known = subst (λ (u : Figures). (u.looks ≡ 0) × ((k : ℕ) → u.number ≡ suc k → u ≡ nothing_listed_lem (suc k))) (sym is) (met_figures n rows out left f m)

      six : (k : ℕ) → nothing_listed_lem (suc k) ≡ read_refusal 0 (suc k)
      six k = ap (λ (l : ℕ). record { number = suc k; count = 0; looks = l }) (same (eqb (suc k) 6))
        where
          same : (b : Bool) → ◌≡◌ {A = ℕ} 0 (cond b 0 0)
          same true = refl
          same false = refl

      read_it : read_figures 0 t.number count 0 ≡ t
      read_it =
          reads (λ u. u ≡ t) 0 t.number t.count 0 count 0 (lent_answer t.number t.count before count told) (λ z. refl)
          (ap (λ (l : ℕ). record { number = t.number; count = t.count; looks = l }) (sym known.0)) (λ k e. sym (known.1 k e ∙ six k))

-- ---- the list that is chosen

module _ (n : ℕ) (rows first second : List ℕ) (t f : Chosen) (is : t ≡ f) (before list : ℕ) (told : list ≡ lent_number t.number t.list before) where
  pub lent_shorter : f ≡ shorter_reply n rows first second → let reply = shorter_reply n rows first second in
      (t.number ≡ reply.number) × ((list ≡ lent_number t.number reply.list before) × Chooses n rows first second (part_of list first second) t.number)
  lent_shorter e = (
    ap (λ (x : Chosen). x.number) (is ∙ e),
    (
      told ∙ ap (λ (x : Chosen). lent_number t.number x.list before) (is ∙ e),
      reply_list n rows first second t (is ∙ e) list (lent_answer t.number t.list before list told),
    ),
  )
