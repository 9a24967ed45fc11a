-- What the functions of a search tell, from what is known of a search with a memory cut at a budget.
-- Assumes nothing.
use mathlib.Core.Path.{◌≡◌, refl, sym, ap, ◌∙◌, subst}
use mathlib.Core.Bool.{Bool, true, false, true≢false, false≢true}
use denote.Enum.Bare.{sameb}
use mathlib.Core.Logic.{◌⊎◌, inl, inr, ⊎_elim}
use mathlib.Core.List.{List, [], ◌++◌}
use Prim.Native.Nat.{ℕ, ◌+◌, ◌-◌, ◌^◌, ◌≤◌, ◌<◌}
use native.Mathlib.Nat.{le_refl, le_trans}
use native.Mathlib.Omega.{arith}
use lib.ListN.{length, take, drop}
use lib.Seq.{drop-drop}
use Rattle.binar.specs.Rows.{width}
use Rattle.triangular.specs.contracts.Ending.{the_type}
use Rattle.triangular.specs.declared.Ending.{Ending}
use Rattle.triangular.specs.declared.Ending.TheVariants.{Found, Failed, Spent}
use Rattle.triangular.specs.Spaces.{is_alternating_lem}
use Rattle.triangular.specs.Memory.{Entry, entry_basis, holds, enter, Remembered, draws_with, search_with, known_within}
use Rattle.triangular.specs.Search.{ended, failed}
use Rattle.triangular.specs.Readings.{verdict_of}
use Rattle.triangular.proofs.Entries.{Stamped, holds_none}
use Rattle.triangular.proofs.Budgets.{Told, says_found, says_failed, space_empty, space_held, space_alternating, open_found, open_spent, open_failed}
use Rattle.memory.specs.Entries.{room_in, entered, taken}
use Rattle.memory.specs.inner.Kept.{Fits, Kept}
use Rattle.memory.proofs.Kept.{kept_entered, entered_rest}
use Rattle.search.specs.inner.Reports.{Grew, Reports}

-- ---- answers of the code

pub found_not_failed : Found ≡ Failed → ⊥
found_not_failed e = let z : ◌≡◌ {A = ℕ} 0 1 = ap tag e in absurd (omega arith)
  where
    tag : Ending → ℕ
    tag Found = 0
    tag Failed = 1
    tag Spent = 2

-- what the code's tests say of an ending
pub is_failed : (v : Ending) → sameb the_type v Failed ≡ true → v ≡ Failed
is_failed Found e = absurd (false≢true e)
is_failed Failed e = refl
is_failed Spent e = absurd (false≢true e)

pub not_failed : (v : Ending) → sameb the_type v Failed ≡ false → (v ≡ Found) ⊎ (v ≡ Spent)
not_failed Found e = inl refl
not_failed Failed e = absurd (true≢false e)
not_failed Spent e = inr refl

pub is_found : (v : Ending) → sameb the_type v Found ≡ true → v ≡ Found
is_found Found e = refl
is_found Failed e = absurd (false≢true e)
is_found Spent e = absurd (false≢true e)

pub not_found : (v : Ending) → sameb the_type v Found ≡ false → (v ≡ Failed) ⊎ (v ≡ Spent)
not_found Found e = absurd (true≢false e)
not_found Failed e = inl refl
not_found Spent e = inr refl

-- ---- the words of a memory

pub grew_none : (ws : List ℕ) (used : ℕ) → used ≤ length ws → Grew ws used ws used
grew_none ws used h = (le_refl used, h, refl)

pub grew_on : (ws : List ℕ) (used : ℕ) (ws₁ : List ℕ) (used₁ : ℕ) (ws₂ : List ℕ) (used₂ : ℕ) → Grew ws used ws₁ used₁ → Grew ws₁ used₁ ws₂ used₂ → Grew ws used ws₂ used₂
grew_on ws used ws₁ used₁ ws₂ used₂ g h =
    let k = used₂ - used₁ in
    let e : used₁ + k ≡ used₂ = omega (arith, h.0) in
    let past : (l : List ℕ) → drop used₂ l ≡ drop k (drop used₁ l) = λ l. sym (drop-drop k used₁ l ∙ ap (λ n. drop n l) e) in
    (le_trans g.0 h.0, h.1, h.2 ∙ past ws₁ ∙ ap (drop k) g.2 ∙ sym (past ws))

-- a space of dimension d is entered behind the words in use
module _ (ws : List ℕ) (used : ℕ) (d : ℕ) (rs ws' : List ℕ) (used' : ℕ) (inside : used ≤ length ws)
    (put : ws' ≡ take used ws ++ entered rs (drop used ws)) (now : used' ≡ used + taken (drop used ws)) where
  pub noted_grew : Grew ws used ws' used'
  noted_grew =
      let r = entered_rest ws used rs inside in
      subst (λ (l : List ℕ). Grew ws used l used') (sym put) (subst (λ n. Grew ws used (take used ws ++ entered rs (drop used ws)) n) (sym now) (r.0, omega (arith, r.1, r.3), r.2))

  pub noted_kept : (M : List Entry) (looks : ℕ) → Kept ws used M → length rs ≡ d → Fits rs → Kept ws' used' (enter (room_in ws) (record { dimension = d; basis = rs; looks = looks }) M)
  noted_kept M looks k size fits =
      subst (λ n. Kept ws' used' (enter (room_in ws) (record { dimension = n; basis = rs; looks = looks }) M)) size
      (subst (λ (l : List ℕ). Kept l used' (enter (room_in ws) (record { dimension = length rs; basis = rs; looks = looks }) M)) (sym put)
      (subst (λ n. Kept (take used ws ++ entered rs (drop used ws)) n (enter (room_in ws) (record { dimension = length rs; basis = rs; looks = looks }) M)) (sym now)
      (kept_entered ws used M rs looks k fits)))

-- ---- a space

pub reports_by : (budget : ℕ) (r : Remembered) (v : Ending) (k : ℕ) (l ws : List ℕ) (used : ℕ) (N : List Entry) → Told budget r (verdict_of v k l) N → Kept ws used N → Reports budget r v k l ws used
reports_by budget r v k l ws used N t kept = (t.0, subst (Kept ws used) t.1 kept)

module _ (E : ℕ → ℕ → Bool) (room budget looks : ℕ) (bs : List ℕ) (M : List Entry) (s : Stamped looks M) (h : looks ≤ budget) where
  pub empty_reports : (d : ℕ) → d ≡ 0 → (l ws : List ℕ) (used : ℕ) → l ≡ [] → Kept ws used M → Reports budget (search_with E width room d bs looks M) Found looks l ws used
  empty_reports d e l ws used none kept =
      let t = space_empty E width room budget looks bs M s h d e in
      reports_by budget (search_with E width room d bs looks M) Found looks l ws used M (ap (verdict_of Found looks) none ∙ says_found Found looks [] refl ∙ t.0, t.1) kept

  module _ (d : ℕ) (some : 0 < d) where
    -- a failure, with the memory as it is then
    fails_by : (k : ℕ) (N : List Entry) → Told budget (search_with E width room d bs looks M) (ended (failed k)) N → (l ws : List ℕ) (used : ℕ) → Kept ws used N
        → Reports budget (search_with E width room d bs looks M) Failed k l ws used
    fails_by k N t l ws used kept = reports_by budget (search_with E width room d bs looks M) Failed k l ws used N (says_failed Failed k l refl ∙ t.0, t.1) kept

    pub held_reports : holds d (entry_basis width bs) M ≡ true → (l ws : List ℕ) (used : ℕ) → Kept ws used M → Reports budget (search_with E width room d bs looks M) Failed looks l ws used
    held_reports e = fails_by looks M (space_held E width room budget looks bs M s h d some e)

    module _ (unheld : holds d (entry_basis width bs) M ≡ false) where
      pub alternating_reports : is_alternating_lem E bs ≡ true → (l ws : List ℕ) (used : ℕ) → Kept ws used (enter room (record { dimension = d; basis = entry_basis width bs; looks = looks }) M)
          → Reports budget (search_with E width room d bs looks M) Failed looks l ws used
      alternating_reports a = fails_by looks (enter room (record { dimension = d; basis = entry_basis width bs; looks = looks }) M) (space_alternating E width room budget looks bs M s h d some unheld a)

      -- what its draws came to
      module _ (open_is : is_alternating_lem E bs ≡ false) (v : Ending) (k : ℕ) (l ws : List ℕ) (used : ℕ)
          (came : Reports budget (draws_with E width room (search_with E width room (d - 1)) bs (2 ^ d - 1) 1 looks M) v k l ws used) where
        abbrev N : List Entry
        N = known_within budget (draws_with E width room (search_with E width room (d - 1)) bs (2 ^ d - 1) 1 looks M).memory

        pub kept_reports : (v ≡ Found) ⊎ (v ≡ Spent) → Reports budget (search_with E width room d bs looks M) v k l ws used
        kept_reports is =
            reports_by budget (search_with E width room d bs looks M) v k l ws used N
            (⊎_elim (open_found E width room budget looks bs M s h d some unheld open_is v k l N (came.0, refl)) (open_spent E width room budget looks bs M s h d some unheld open_is v k l N (came.0, refl)) is)
            came.1

        pub failed_reports : v ≡ Failed → (l' ws' : List ℕ) (used' : ℕ)
            → Kept ws' used' (enter room (record { dimension = d; basis = entry_basis width bs; looks = k }) (known_within budget (draws_with E width room (search_with E width room (d - 1)) bs (2 ^ d - 1) 1 looks M).memory))
            → Reports budget (search_with E width room d bs looks M) Failed k l' ws' used'
        failed_reports is = fails_by k (enter room (record { dimension = d; basis = entry_basis width bs; looks = k }) N) (open_failed E width room budget looks bs M s h d some unheld open_is v k l N (came.0, refl) is)

    -- with room for no entry: nothing is held, and nothing entered
    module _ (empty : M ≡ []) (full : (e : Entry) (N : List Entry) → enter room e N ≡ N) where
      none_held : holds d (entry_basis width bs) M ≡ false
      none_held = ap (holds d (entry_basis width bs)) empty ∙ holds_none d (entry_basis width bs)

      pub plain_alternating : is_alternating_lem E bs ≡ true → (l ws : List ℕ) (used : ℕ) → Kept ws used M → Reports budget (search_with E width room d bs looks M) Failed looks l ws used
      plain_alternating a l ws used kept =
          alternating_reports none_held a l ws used (subst (Kept ws used) (sym (full (record { dimension = d; basis = entry_basis width bs; looks = looks }) M)) kept)

      pub plain_reports : is_alternating_lem E bs ≡ false → (v : Ending) (k : ℕ) (l ws : List ℕ) (used : ℕ)
          → Reports budget (draws_with E width room (search_with E width room (d - 1)) bs (2 ^ d - 1) 1 looks M) v k l ws used → Reports budget (search_with E width room d bs looks M) v k l ws used
      plain_reports open_is Found k l ws used came = kept_reports none_held open_is Found k l ws used came (inl refl)
      plain_reports open_is Spent k l ws used came = kept_reports none_held open_is Spent k l ws used came (inr refl)
      plain_reports open_is Failed k l ws used came =
          failed_reports none_held open_is Failed k l ws used came refl l ws used (subst (Kept ws used) (sym (full (record { dimension = d; basis = entry_basis width bs; looks = k }) _)) came.1)
