-- The search with a memory under a budget, as two functions that call each other take it: one tries a space, draw by draw, the other what one draw passes on.
-- Assumes nothing.
use mathlib.Core.Path.{◌≡◌, refl, sym, ap, ap₂, ◌∙◌, subst}
use mathlib.Core.Bool.{Bool, true, false}
use mathlib.Core.List.{List, [], ◌∷◌}
use Prim.Native.Nat.{ℕ, zero, suc, ◌+◌, ◌-◌, ◌^◌, ◌≤◌, ◌<◌}
use native.Mathlib.Nat.{le_refl, le_trans, not-suc-le-zero, lt_of_lt_of_le}
use native.Mathlib.Numerals.{add-one, sub-one}
use native.Mathlib.Omega.{arith}
use borrow.Author.Tests.{lt-leb, le-leb, leb-true, leb-false}
use lib.Dec.{leb}
use Rattle.blocks.specs.Matrices.{times}
use Rattle.blocks.proofs.All.{All-map}
use Rattle.triangular.specs.declared.Ending.{Ending}
use Rattle.triangular.specs.declared.Ending.TheVariants.{Found, Failed, Spent}
use Rattle.triangular.specs.Spaces.{complement, is_alternating_lem}
use Rattle.triangular.specs.Search.{Outcome, found, failed, looks_of, Verdict, ended, spent, ended_if, budgeted}
use Rattle.triangular.specs.Memory.{Entry, entry_basis, holds, enter, Remembered, unless_fails, noted, after_rest_with, draw_with, draws_with, search_with, known_within}
use Rattle.triangular.specs.Readings.{verdict_of}
use Rattle.triangular.proofs.Entries.{enter_all, Stamped, known_all, known_past, stamped_on}
use Rattle.triangular.proofs.Grows.{Grown, Grows, after_grows, noted_after, draw_grows, draws_grow, search_grows}

-- ---- the verdict

pub budgeted_is : (budget : ℕ) (out : Outcome) → budgeted budget out ≡ ended_if (leb (looks_of out) budget) out budget
unfolding budgeted
budgeted_is budget out = refl

module _ (budget : ℕ) where
  ends : (out : Outcome) → looks_of out ≤ budget → budgeted budget out ≡ ended out
  unfolding budgeted
  ends out h = ap (λ b. ended_if b out budget) (le-leb (looks_of out) budget h)

  spends : (out : Outcome) → budget < looks_of out → budgeted budget out ≡ spent budget
  unfolding budgeted
  spends out h = ap (λ b. ended_if b out budget) (lt-leb (looks_of out) budget h)

  pub of_ended : (out o : Outcome) → ended o ≡ budgeted budget out → (o ≡ out) × (looks_of out ≤ budget)
  unfolding budgeted
  of_ended out o e = go (leb (looks_of out) budget) refl e
    where
      go : (b : Bool) → leb (looks_of out) budget ≡ b → ended o ≡ ended_if b out budget → (o ≡ out) × (looks_of out ≤ budget)
      go true q e = (cc, leb-true (looks_of out) budget q)
      go false q e = let z : ◌≡◌ {A = ℕ} 0 1 = cc in absurd (omega arith)

  pub of_spent : (out : Outcome) (k : ℕ) → spent k ≡ budgeted budget out → (k ≡ budget) × (budget < looks_of out)
  unfolding budgeted
  of_spent out k e = go (leb (looks_of out) budget) refl e
    where
      go : (b : Bool) → leb (looks_of out) budget ≡ b → spent k ≡ ended_if b out budget → (k ≡ budget) × (budget < looks_of out)
      go true q e = let z : ◌≡◌ {A = ℕ} 0 1 = cc in absurd (omega arith)
      go false q e = (cc, leb-false (looks_of out) budget q)

-- what the code says of its ending
module _ (v : Ending) (k : ℕ) (l : List ℕ) where
  pub says_found : v ≡ Found → verdict_of v k l ≡ ended (found l k)
  unfolding verdict_of
  says_found e = ap (λ x. verdict_of x k l) e

  pub says_failed : v ≡ Failed → verdict_of v k l ≡ ended (failed k)
  unfolding verdict_of
  says_failed e = ap (λ x. verdict_of x k l) e

  pub says_spent : v ≡ Spent → verdict_of v k l ≡ spent k
  unfolding verdict_of
  says_spent e = ap (λ x. verdict_of x k l) e

-- ---- what is to be told: a verdict and a memory, of a search cut at the budget

abbrev pub Cut : ℕ → Remembered → Verdict → List Entry → Type 0
Cut budget r A K = (budgeted budget r.outcome ≡ A) × (known_within budget r.memory ≡ K)

-- told of a search
abbrev pub Told : ℕ → Remembered → Verdict → List Entry → Type 0
Told budget r A N = (A ≡ budgeted budget r.outcome) × (N ≡ known_within budget r.memory)

module _ (budget : ℕ) where
  -- a search that ended
  tells_ended : (o : Outcome) (M : List Entry) → looks_of o ≤ budget → Stamped (looks_of o) M → Told budget (record { outcome = o; memory = M }) (ended o) M
  tells_ended o M h s = (sym (ends budget o h), sym (known_all budget M (All-map (λ e k. le_trans k h) M s)))

  -- spent already: what comes next changes nothing
  tells_spent : (o o' : Outcome) (N N' : List Entry) → budget < looks_of o → Grown (looks_of o) N o' N'
      → (spent budget ≡ budgeted budget o') × (known_within budget N ≡ known_within budget N')
  tells_spent o o' N N' h g = (sym (spends budget o' (lt_of_lt_of_le h g.more)), sym (known_past budget (looks_of o) N o' N' h g))

-- ---- a space

space_step : (E : ℕ → ℕ → Bool) (m room looks : ℕ) (bs : List ℕ) (M : List Entry) (d : ℕ) → 0 < d
    → search_with E m room d bs looks M ≡ unless_fails (holds d (entry_basis m bs) M)
    (λ n N. let r = unless_fails (is_alternating_lem E bs) (draws_with E m room (search_with E m room (d - 1)) bs (2 ^ d - 1) 1) n N in noted room d (entry_basis m bs) r.outcome r.memory) looks M
unfolding search_with
space_step E m room looks bs M zero h = absurd (not-suc-le-zero h)
space_step E m room looks bs M (suc d) h =
    ap (λ k. unless_fails (holds (suc d) (entry_basis m bs) M)
    (λ n N. let r = unless_fails (is_alternating_lem E bs) (draws_with E m room (search_with E m room k) bs (2 ^ suc d - 1) 1) n N in noted room (suc d) (entry_basis m bs) r.outcome r.memory) looks M) (sym (sub-one (suc d)))

module _ (E : ℕ → ℕ → Bool) (m room budget looks : ℕ) (bs : List ℕ) (M : List Entry) (s : Stamped looks M) (h : looks ≤ budget) where
  pub space_empty : (d : ℕ) → d ≡ 0 → Told budget (search_with E m room d bs looks M) (ended (found [] looks)) M
  unfolding search_with
  space_empty d e = subst (λ n. Told budget (search_with E m room n bs looks M) (ended (found [] looks)) M) (sym e) (tells_ended budget (found [] looks) M h s)

  module _ (d : ℕ) (some : 0 < d) where
    abbrev all : ℕ → List Entry → Remembered
    all = draws_with E m room (search_with E m room (d - 1)) bs (2 ^ d - 1) 1

    abbrev note : Outcome → List Entry → Remembered
    note = noted room d (entry_basis m bs)

    abbrev asked : Bool → Bool → Remembered
    asked a b = unless_fails a (λ n N. let r = unless_fails b all n N in note r.outcome r.memory) looks M

    answered : (a b : Bool) → holds d (entry_basis m bs) M ≡ a → is_alternating_lem E bs ≡ b → search_with E m room d bs looks M ≡ asked a b
    answered a b e f = space_step E m room looks bs M d some ∙ ap₂ asked e f

    pub space_held : holds d (entry_basis m bs) M ≡ true → Told budget (search_with E m room d bs looks M) (ended (failed looks)) M
    space_held e = subst (λ r. Told budget r (ended (failed looks)) M) (sym (answered true (is_alternating_lem E bs) e refl)) (tells_ended budget (failed looks) M h s)

    module _ (unheld : holds d (entry_basis m bs) M ≡ false) where
      pub space_alternating : is_alternating_lem E bs ≡ true
          → Told budget (search_with E m room d bs looks M) (ended (failed looks)) (enter room (record { dimension = d; basis = entry_basis m bs; looks = looks }) M)
      space_alternating a =
          let e : Entry = record { dimension = d; basis = entry_basis m bs; looks = looks } in
          subst (λ r. Told budget r (ended (failed looks)) (enter room e M)) (sym (answered false true unheld a))
          (tells_ended budget (failed looks) (enter room e M) h (enter_all (λ e. e.looks ≤ looks) room e M (le_refl looks) s))

      module _ (open_is : is_alternating_lem E bs ≡ false) (v : Ending) (k : ℕ) (l : List ℕ) (N : List Entry)
          (told : Told budget (draws_with E m room (search_with E m room (d - 1)) bs (2 ^ d - 1) 1 looks M) (verdict_of v k l) N) where
        abbrev w : Remembered
        w = all looks M

        grown : Grown looks M w.outcome w.memory
        grown = draws_grow E m room (search_with E m room (d - 1)) (search_grows E m room (d - 1)) bs (2 ^ d - 1) 1 looks M

        by_note : (A : Verdict) (K : List Entry) → Told budget (note w.outcome w.memory) A K → Told budget (search_with E m room d bs looks M) A K
        by_note A K t = subst (λ r. Told budget r A K) (sym (answered false false unheld open_is)) t

        -- found or spent: nothing is entered
        pub open_found : v ≡ Found → Told budget (search_with E m room d bs looks M) (verdict_of v k l) N
        open_found is =
            let f = of_ended budget w.outcome (found l k) (sym (says_found v k l is) ∙ told.0) in
            by_note (verdict_of v k l) N (subst (λ o. Told budget (note o w.memory) (verdict_of v k l) N) f.0
            (told.0 ∙ ap (budgeted budget) (sym f.0), told.1))

        pub open_spent : v ≡ Spent → Told budget (search_with E m room d bs looks M) (verdict_of v k l) N
        open_spent is =
            let e = says_spent v k l is in
            let f = of_spent budget w.outcome k (sym e ∙ told.0) in
            let r = note w.outcome w.memory in
            let t = tells_spent budget w.outcome r.outcome w.memory r.memory f.1 (noted_after room d (entry_basis m bs) w.outcome w.memory) in
            by_note (verdict_of v k l) N (e ∙ ap spent f.0 ∙ t.0, told.1 ∙ t.1)

        -- failed: it is entered now
        pub open_failed : v ≡ Failed
            → Told budget (search_with E m room d bs looks M) (ended (failed k)) (enter room (record { dimension = d; basis = entry_basis m bs; looks = k }) N)
        open_failed is =
            let f = of_ended budget w.outcome (failed k) (sym (says_failed v k l is) ∙ told.0) in
            let old : Stamped k w.memory = subst (λ o. Stamped (looks_of o) w.memory) (sym f.0) (stamped_on looks M w.outcome w.memory s grown) in
            let fits : k ≤ budget = subst (λ o. looks_of o ≤ budget) (sym f.0) f.1 in
            let same : N ≡ w.memory = told.1 ∙ known_all budget w.memory (All-map (λ e n. le_trans n fits) w.memory old) in
            let e : Entry = record { dimension = d; basis = entry_basis m bs; looks = k } in
            subst (λ (L : List Entry). Told budget (search_with E m room d bs looks M) (ended (failed k)) (enter room e L)) (sym same)
            (by_note (ended (failed k)) (enter room e w.memory) (subst (λ o. Told budget (note o w.memory) (ended (failed k)) (enter room e w.memory)) f.0
            (tells_ended budget (failed k) (enter room e w.memory) fits (enter_all (λ e. e.looks ≤ k) room e w.memory (le_refl k) old))))

-- the loop begins
pub space_begun : (E : ℕ → ℕ → Bool) (m room budget looks : ℕ) (bs : List ℕ) (M : List Entry) (d last c : ℕ) → last ≡ 2 ^ d - 1 → c ≡ 0
    → let r = draws_with E m room (search_with E m room (d - 1)) bs (2 ^ d - 1) 1 looks M in
    Cut budget (draws_with E m room (search_with E m room (d - 1)) bs (last - c) (c + 1) looks M) (budgeted budget r.outcome) (known_within budget r.memory)
space_begun E m room budget looks bs M d last c e z =
    let f : last - c ≡ 2 ^ d - 1 = omega arith in
    let g : c + 1 ≡ 1 = omega arith in
    let same = ap₂ (λ n x. draws_with E m room (search_with E m room (d - 1)) bs n x looks M) f g in
    (ap (λ (r : Remembered). budgeted budget r.outcome) same, ap (λ (r : Remembered). known_within budget r.memory) same)

-- ---- its draws: c of them are behind the loop, and A and K are to be told

module _ (E : ℕ → ℕ → Bool) (m room budget looks : ℕ) (bs : List ℕ) (d last c : ℕ) (M : List Entry) (A : Verdict) (K : List Entry) (s : Stamped looks M)
    (inv : Cut budget (draws_with E m room (search_with E m room d) bs (last - c) (c + 1) looks M) A K) where
  -- no draw is left
  pub at_end : last ≤ c → looks ≤ budget → (ended (failed looks) ≡ A) × (M ≡ K)
  unfolding draws_with
  at_end h k =
      let e : last - c ≡ 0 = omega arith in
      let same = ap (λ n. draws_with E m room (search_with E m room d) bs n (c + 1) looks M) (sym e) in
      let t = tells_ended budget (failed looks) M k s in
      (t.0 ∙ ap (λ (r : Remembered). budgeted budget r.outcome) same ∙ inv.0, t.1 ∙ ap (λ (r : Remembered). known_within budget r.memory) same ∙ inv.1)

  module _ (h : c < last) where
    abbrev next : ℕ → List Entry → Remembered
    next = draws_with E m room (search_with E m room d) bs (last - (c + 1)) (c + 1 + 1)

    next_grows : Grows next
    next_grows = draws_grow E m room (search_with E m room d) (search_grows E m room d) bs (last - (c + 1)) (c + 1 + 1)

    abbrev one : ℕ → Remembered
    one p = draw_with (E p p) p (search_with E m room d (complement (E p) bs)) next looks M

    step : (p : ℕ) → p ≡ times (c + 1) bs → one p ≡ draws_with E m room (search_with E m room d) bs (last - c) (c + 1) looks M
    unfolding draws_with
    step p is =
        let e : last - c ≡ suc (last - (c + 1)) = omega arith in
        let q = times (c + 1) bs in
        ap one is ∙ ap (λ n. draw_with (E q q) q (search_with E m room d (complement (E q) bs)) (draws_with E m room (search_with E m room d) bs (last - (c + 1)) n) looks M) (add-one (c + 1))
        ∙ ap (λ n. draws_with E m room (search_with E m room d) bs n (c + 1) looks M) (sym e)

    -- what one draw gives is to be told
    by_one : (p : ℕ) → p ≡ times (c + 1) bs → Cut budget (one p) A K
    by_one p is =
        let e = step p is in
        (ap (λ (r : Remembered). budgeted budget r.outcome) e ∙ inv.0, ap (λ (r : Remembered). known_within budget r.memory) e ∙ inv.1)

    -- a draw is left, and no look
    pub at_stop : looks ≡ budget → (spent looks ≡ A) × (M ≡ K)
    at_stop e =
        let p = times (c + 1) bs in
        let g = draw_grows (E p p) p (search_with E m room d (complement (E p) bs)) next (search_grows E m room d (complement (E p) bs)) next_grows looks M in
        let t = by_one p refl in
        let past : budget < suc looks = omega arith in
        let few : looks ≤ budget = omega arith in (
          ap spent e ∙ sym (spends budget (one p).outcome (lt_of_lt_of_le past g.more)) ∙ t.0,
          sym (known_past budget (suc looks) M (one p).outcome (one p).memory past g ∙ known_all budget M (All-map (λ e k. le_trans k few) M s)) ∙ t.1,
        )

    module _ (p : ℕ) (is : p ≡ times (c + 1) bs) where
      -- not accepted: the other draws follow
      pub at_left : E p p ≡ false → Cut budget (draws_with E m room (search_with E m room d) bs (last - (c + 1)) (c + 1 + 1) (looks + 1) M) A K
      at_left a =
          let e : next (looks + 1) M ≡ one p = ap (λ n. next n M) (add-one looks) ∙ ap (λ b. draw_with b p (search_with E m room d (complement (E p) bs)) next looks M) (sym a) in
          let t = by_one p is in
          (ap (λ (r : Remembered). budgeted budget r.outcome) e ∙ t.0, ap (λ (r : Remembered). known_within budget r.memory) e ∙ t.1)

      module _ (a : E p p ≡ true) where
        abbrev r : Remembered
        r = search_with E m room d (complement (E p) bs) (looks + 1) M

        abbrev taken : Outcome → List Entry → Remembered
        taken o N = after_rest_with p next o N

        by_rest : Cut budget (taken r.outcome r.memory) A K
        by_rest =
            let rest = search_with E m room d (complement (E p) bs) in
            let e : taken r.outcome r.memory ≡ one p =
            ap (λ n. taken (rest n M).outcome (rest n M).memory) (add-one looks) ∙ ap (λ b. draw_with b p rest next looks M) (sym a) in
            let t = by_one p is in
            (ap (λ (r : Remembered). budgeted budget r.outcome) e ∙ t.0, ap (λ (r : Remembered). known_within budget r.memory) e ∙ t.1)

        -- what the search of its rest came to
        module _ (v : Ending) (k : ℕ) (l : List ℕ) (N : List Entry)
            (told : Told budget (search_with E m room d (complement (E p) bs) (looks + 1) M) (verdict_of v k l) N) where
          pub at_found : v ≡ Found → (verdict_of v k (p ∷ l) ≡ A) × (N ≡ K)
          at_found is =
              let f = of_ended budget r.outcome (found l k) (sym (says_found v k l is) ∙ told.0) in
              let t : Cut budget (taken (found l k) r.memory) A K = subst (λ o. Cut budget (taken o r.memory) A K) (sym f.0) by_rest in
              (says_found v k (p ∷ l) is ∙ sym (ends budget (found (p ∷ l) k) (subst (λ o. looks_of o ≤ budget) (sym f.0) f.1)) ∙ t.0, told.1 ∙ t.1)

          pub at_spent : v ≡ Spent → (l' : List ℕ) → (verdict_of v k l' ≡ A) × (N ≡ K)
          at_spent is l' =
              let f = of_spent budget r.outcome k (sym (says_spent v k l is) ∙ told.0) in
              let b = taken r.outcome r.memory in
              let t = tells_spent budget r.outcome b.outcome r.memory b.memory f.1 (after_grows p next next_grows r.outcome r.memory) in
              (says_spent v k l' is ∙ ap spent f.0 ∙ t.0 ∙ by_rest.0, told.1 ∙ t.1 ∙ by_rest.1)

          -- failed: the other draws follow, from its looks and its memory on
          pub at_failed : v ≡ Failed → Cut budget (draws_with E m room (search_with E m room d) bs (last - (c + 1)) (c + 1 + 1) k N) A K × (Stamped k N × (k ≤ budget))
          at_failed is =
              let f = of_ended budget r.outcome (failed k) (sym (says_failed v k l is) ∙ told.0) in
              let now : Stamped (looks + 1) M = All-map (λ e n. omega (arith, n)) M s in
              let g = search_grows E m room d (complement (E p) bs) (looks + 1) M in
              let old : Stamped k r.memory = subst (λ o. Stamped (looks_of o) r.memory) (sym f.0) (stamped_on (looks + 1) M r.outcome r.memory now g) in
              let fits : k ≤ budget = subst (λ o. looks_of o ≤ budget) (sym f.0) f.1 in
              let same : N ≡ r.memory = told.1 ∙ known_all budget r.memory (All-map (λ e n. le_trans n fits) r.memory old) in
              let t : Cut budget (taken (failed k) r.memory) A K = subst (λ o. Cut budget (taken o r.memory) A K) (sym f.0) by_rest in
              (subst (λ (L : List Entry). Cut budget (next k L) A K) (sym same) t, (subst (Stamped k) (sym same) old, fits))
