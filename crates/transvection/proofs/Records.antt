-- The record of the greedy list, step by step: one more turn, the end, and what a step keeps.
-- Assumes nothing.
use mathlib.Core.Path.{◌≡◌, refl, sym, ap, ◌∙◌}
use mathlib.Core.Bool.{true}
use mathlib.Core.List.{List, [], ◌∷◌, ◌++◌, append-nil}
use mathlib.Core.Option.{Option, none, some}
use Prim.Native.Nat.{ℕ, zero, suc, ◌+◌, ◌-◌, ◌^◌, ◌<◌}
use native.Mathlib.Omega.{arith}
use lib.ListN.{length}
use lib.Seq.{append_snoc}
use Rattle.blocks.specs.Matrices.{All}
use Rattle.symplectic.specs.Turns.{followed, symplectic}
use Rattle.symplectic.proofs.Products.{followed_length, followed_lt}
use Rattle.symplectic.proofs.Layers.{followed_symplectic}
use Rattle.transvection.specs.Greedy.{next_transvection_lem, record_next, recorded}
use Rattle.transvection.proofs.Taken.{taken_lt}

-- ---- one step

pub recorded_more : (n k : ℕ) (F : List ℕ) (v : ℕ) → next_transvection_lem n F ≡ some v → recorded n (suc k) F ≡ v ∷ recorded n k (followed n F v)
unfolding recorded
recorded_more n k F v e = ap (record_next n (recorded n k) F) e

pub recorded_none : (n k : ℕ) (F : List ℕ) → next_transvection_lem n F ≡ none → recorded n k F ≡ []
unfolding recorded
recorded_none n zero F e = refl
recorded_none n (suc k) F e = ap (record_next n (recorded n k) F) e

pub recorded_zero : (n : ℕ) (F : List ℕ) → recorded n 0 F ≡ []
unfolding recorded
recorded_zero n F = refl

-- ---- with the turns taken so far before it

pub record_next_lem : (n k : ℕ) (F vs all : List ℕ) (v : ℕ) → vs ++ recorded n (suc k) F ≡ all → next_transvection_lem n F ≡ some v
    → (vs ++ (v ∷ [])) ++ recorded n k (followed n F v) ≡ all
record_next_lem n k F vs all v h e = append_snoc vs v (recorded n k (followed n F v)) ∙ ap (λ l. vs ++ l) (sym (recorded_more n k F v e)) ∙ h

-- as a loop counts: none taken of m, then i
pub record_start : (n m : ℕ) (F : List ℕ) → recorded n (m - 0) F ≡ recorded n m F
record_start n m F = ap (λ k. recorded n k F) (omega arith)

pub record_step : (n m i : ℕ) (F vs all : List ℕ) (v : ℕ) → i < m → vs ++ recorded n (m - i) F ≡ all → next_transvection_lem n F ≡ some v
    → (vs ++ (v ∷ [])) ++ recorded n (m - (i + 1)) (followed n F v) ≡ all
record_step n m i F vs all v l h e =
    let k : m - i ≡ suc (m - (i + 1)) = omega arith in
    record_next_lem n (m - (i + 1)) F vs all v (ap (λ t. vs ++ recorded n t F) (sym k) ∙ h) e

pub record_done : (n k : ℕ) (F vs all : List ℕ) → vs ++ recorded n k F ≡ all → next_transvection_lem n F ≡ none → vs ≡ all
record_done n k F vs all h e = sym (append-nil vs) ∙ ap (λ l. vs ++ l) (sym (recorded_none n k F e)) ∙ h

-- as many turns as there may be
pub record_end : (n k : ℕ) (F vs all : List ℕ) → vs ++ recorded n k F ≡ all → k ≡ 0 → vs ≡ all
record_end n k F vs all h e = sym (append-nil vs) ∙ ap (λ l. vs ++ l) (sym (ap (λ j. recorded n j F) e ∙ recorded_zero n F)) ∙ h

-- ---- what a step keeps

-- a symplectic matrix of 2n rows of 2n columns
abbrev pub Action : ℕ → List ℕ → Type 0
Action n F = (length F ≡ n + n) × All (λ f. f < 2 ^ (n + n)) F × (symplectic n F ≡ true)

pub followed_rows : (n : ℕ) (F : List ℕ) (v : ℕ) → Action n F → v < 2 ^ (n + n) → Action n (followed n F v)
followed_rows n F v a h = (followed_length n F v ∙ a.0, followed_lt (n + n) n F v a.1 h, followed_symplectic n F v a.0 a.2)

pub next_rows : (n : ℕ) (F : List ℕ) (v : ℕ) → Action n F → next_transvection_lem n F ≡ some v → (v < 2 ^ (n + n)) × Action n (followed n F v)
next_rows n F v a e = let h = taken_lt n F a.0 a.1 v e in (h, followed_rows n F v a h)

pub recorded_lt : (n k : ℕ) (F : List ℕ) → Action n F → All (λ v. v < 2 ^ (n + n)) (recorded n k F)
unfolding recorded
recorded_lt n zero F a = tt
recorded_lt n (suc k) F a = go (next_transvection_lem n F) refl (λ G b. recorded_lt n k G b)
  where
    go : (out : Option ℕ) → next_transvection_lem n F ≡ out → ((G : List ℕ) → Action n G → All (λ v. v < 2 ^ (n + n)) (recorded n k G))
        → All (λ v. v < 2 ^ (n + n)) (record_next n (recorded n k) F out)
    go none e ih = tt
    go (some v) e ih = let h = next_rows n F v a e in (h.0, ih (followed n F v) h.1)
