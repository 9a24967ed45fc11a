-- The draws of a space, turn by turn: what is still to be told of them, with the memory as it is, after each turn of the loop.
-- Assumes nothing.
use mathlib.Core.Path.{◌≡◌, refl, sym, ap, ◌∙◌, subst}
use mathlib.Core.Bool.{true, false}
use mathlib.Core.List.{List, ◌∷◌}
use Prim.Native.Nat.{ℕ, ◌+◌, ◌-◌, ◌^◌, ◌≤◌, ◌<◌}
use native.Mathlib.Omega.{arith}
use Rattle.binar.specs.Rows.{width}
use Rattle.blocks.specs.Matrices.{times}
use Rattle.blocks.proofs.All.{All-map}
use Rattle.residue.specs.Residue.{form}
use Rattle.triangular.specs.declared.Ending.{Ending}
use Rattle.triangular.specs.declared.Ending.TheVariants.{Found, Failed, Spent}
use Rattle.triangular.specs.Spaces.{complement}
use Rattle.triangular.specs.Search.{budgeted}
use Rattle.triangular.specs.Memory.{Entry, Remembered, draws_with, search_with, known_within}
use Rattle.triangular.proofs.Budgets.{Cut, says_failed, says_spent, space_begun, at_end, at_stop, at_left, at_found, at_spent, at_failed}
use Rattle.memory.specs.inner.Kept.{Kept}
use Rattle.search.specs.inner.Reports.{Carries, Reports}

module _ (E : List ℕ) (room budget d : ℕ) (B : List ℕ) (looks : ℕ) (M : List Entry) where
  -- all draws of the space, which are to be told of
  abbrev pub all : Remembered
  all = draws_with (form E) width room (search_with (form E) width room (d - 1)) B (2 ^ d - 1) 1 looks M

  -- c draws are behind: the memory holds some entries N, and the draws that are left give what is to be told
  abbrev pub Going : ℕ → ℕ → ℕ → List ℕ → ℕ → Type 0
  Going last c spent ws kept =
      (N : List Entry) × Carries spent ws kept N
      × Cut budget (draws_with (form E) width room (search_with (form E) width room (d - 1)) B (last - c) (c + 1) spent N) (budgeted budget all.outcome) (known_within budget all.memory)

  pub going_begun : (last c : ℕ) (ws : List ℕ) (used : ℕ) → last ≡ 2 ^ d - 1 → c ≡ 0 → Carries looks ws used M → Going last c looks ws used
  going_begun last c ws used e z k = (M, k, space_begun (form E) width room budget looks B M d last c e z)

  module _ (last c spent : ℕ) (ws : List ℕ) (kept : ℕ) (g : Going last c spent ws kept) where
    abbrev N : List Entry
    N = g.0

    pub going_end : last ≤ c → spent ≤ budget → (l : List ℕ) → Reports budget all Failed spent l ws kept
    going_end h k l =
        let t = at_end (form E) width room budget spent B (d - 1) last c N _ _ g.1.1 g.2 h k in
        (says_failed Failed spent l refl ∙ t.0, subst (Kept ws kept) t.1 g.1.0)

    module _ (h : c < last) where
      pub going_stop : spent ≡ budget → (l : List ℕ) → Reports budget all Spent spent l ws kept
      going_stop e l =
          let t = at_stop (form E) width room budget spent B (d - 1) last c N _ _ g.1.1 g.2 h e in
          (says_spent Spent spent l refl ∙ t.0, subst (Kept ws kept) t.1 g.1.0)

      -- the next coefficients x, and their vector p
      module _ (x : ℕ) (x-is : x ≡ c + 1) where
        abbrev p : ℕ
        p = times x B

        vector : p ≡ times (c + 1) B
        vector = ap (λ n. times n B) x-is

        onward : (k : ℕ) (L : List Entry) → Cut budget (draws_with (form E) width room (search_with (form E) width room (d - 1)) B (last - (c + 1)) (c + 1 + 1) k L) (budgeted budget all.outcome) (known_within budget all.memory)
            → Cut budget (draws_with (form E) width room (search_with (form E) width room (d - 1)) B (last - x) (x + 1) k L) (budgeted budget all.outcome) (known_within budget all.memory)
        onward k L t = subst (λ n. Cut budget (draws_with (form E) width room (search_with (form E) width room (d - 1)) B (last - n) (n + 1) k L) (budgeted budget all.outcome) (known_within budget all.memory)) (sym x-is) t

        -- not accepted
        pub going_left : form E (times x B) (times x B) ≡ false → Going last x (spent + 1) ws kept
        going_left a = (
          N,
          (g.1.0, All-map (λ e n. omega (arith, n)) N g.1.1),
          onward (spent + 1) N (at_left (form E) width room budget spent B (d - 1) last c N _ _ g.1.1 g.2 h p vector a),
        )

        -- accepted: what the search of its rest told
        module _ (a : form E (times x B) (times x B) ≡ true) (v : Ending) (k : ℕ) (l ws' : List ℕ) (kept' : ℕ)
            (came : (N : List Entry) → Carries (spent + 1) ws kept N → Reports budget (search_with (form E) width room (d - 1) (complement (form E (times x B)) B) (spent + 1) N) v k l ws' kept') where
          rest : Reports budget (search_with (form E) width room (d - 1) (complement (form E p) B) (spent + 1) N) v k l ws' kept'
          rest = came N (g.1.0, All-map (λ e n. omega (arith, n)) N g.1.1)

          abbrev L : List Entry
          L = known_within budget (search_with (form E) width room (d - 1) (complement (form E (times x B)) B) (spent + 1) g.0).memory

          pub going_found : v ≡ Found → Reports budget all v k (times x B ∷ l) ws' kept'
          going_found is =
              let t = at_found (form E) width room budget spent B (d - 1) last c N _ _ g.1.1 g.2 h p vector a v k l L (rest.0, refl) is in
              (t.0, subst (Kept ws' kept') t.1 rest.1)

          pub going_spent : v ≡ Spent → (l' : List ℕ) → Reports budget all v k l' ws' kept'
          going_spent is l' =
              let t = at_spent (form E) width room budget spent B (d - 1) last c N _ _ g.1.1 g.2 h p vector a v k l L (rest.0, refl) is l' in
              (t.0, subst (Kept ws' kept') t.1 rest.1)

          pub going_failed : v ≡ Failed → Going last x k ws' kept'
          going_failed is =
              let t = at_failed (form E) width room budget spent B (d - 1) last c N _ _ g.1.1 g.2 h p vector a v k l L (rest.0, refl) is in
              (L, (rest.1, t.1.0), onward k L t.0)
