-- A length looked up in a list of entries: what it is beside, at which place it stands, and where there is none.
-- Assumes nothing.
use mathlib.Core.Path.{◌≡◌, refl, sym, ap, ◌∙◌, subst}
use mathlib.Core.Bool.{Bool, true, false, and-eq-true_iff}
use mathlib.Core.List.{List, [], ◌∷◌, map}
use mathlib.Core.Logic.{◌⊎◌, ⊎_elim}
use mathlib.Core.Option.{Option, none, some}
use Prim.Native.Nat.{ℕ, zero, suc, ◌<◌}
use native.Mathlib.Nat.{lt_trans, le_of_suc-le-suc, not-suc-le-zero}
use native.Mathlib.Omega.{arith}
use lib.Dec.{eqb, ltb}
use lib.ListN.{length, get_or}
use borrow.Author.Tests.{eqb-true, eqb-false, eq-eqb, ne_eqb, ltb-true}
use Rattle.blocks.specs.Matrices.{All}
use Rattle.blocks.proofs.All.{All-map, All-at, All-of_map}
use Rattle.symplectic.specs.Picks.{or_if}
use Rattle.two_qubits.specs.declared.Entry.{Entry}
use Rattle.two_qubits.specs.Book.{◌takes◌}
use Rattle.two_qubits.specs.Lookups.{length_in}
use Rattle.two_qubits.specs.inner.Rules.{above, ascends, Ascending}

-- ---- membership

abbrev pub In : ℕ → List ℕ → Type 0
In z [] = ⊥
In z (w ∷ ws) = (z ≡ w) ⊎ In z ws

-- a length that is found stands in an entry beside the code
pub record Beside (P : Entry → Type 0) (code k : ℕ) : Type 0 where
  pub entry : Entry
  pub code_is : entry.code ≡ code
  pub length_is : entry.length ≡ k
  pub holds : P entry

none_some : {A : Type 0} (a : A) → none ≡ some a → ⊥
none_some {A} a e = subst is_none e tt
  where
    is_none : Option A → Type 0
    is_none none = Unit {0}
    is_none (some b) = ⊥

some_eq : (j k : ℕ) → some j ≡ some k → j ≡ k
some_eq j k e = ap value e
  where
    value : Option ℕ → ℕ
    value none = j
    value (some i) = i

pub beside : (P : Entry → Type 0) (l : List Entry) → All P l → (code k : ℕ) → length_in l code ≡ some k → Beside P code k
unfolding length_in
beside P [] a code k e = absurd (none_some k e)
beside P (x ∷ l) a code k e = go (eqb x.code code) refl e (beside P l a.1 code k)
  where
    go : (b : Bool) → eqb x.code code ≡ b → or_if b x.length (length_in l code) ≡ some k → (length_in l code ≡ some k → Beside P code k) → Beside P code k
    go true t f later = record { entry = x; code_is = eqb-true x.code code t; length_is = some_eq x.length k f; holds = a.0 }
    go false t f later = later f

-- a code that is there has a length
pub in_some : (l : List Entry) (code : ℕ) → In code (map (λ (e : Entry). e.code) l) → length_in l code ≡ none → ⊥
unfolding length_in
in_some [] code h e = h
in_some (x ∷ l) code h e = go (eqb x.code code) refl e (in_some l code)
  where
    go : (b : Bool) → eqb x.code code ≡ b → or_if b x.length (length_in l code) ≡ none → (In code (map (λ (y : Entry). y.code) l) → length_in l code ≡ none → ⊥) → ⊥
    go true t f later = none_some x.length (sym f)
    go false t f later = ⊎_elim (λ same. eqb-false x.code code t (sym same)) (λ m. later m f) h

-- ---- places

-- no place has the code
pub none_at : (l : List Entry) (code : ℕ) → ((i : ℕ) → i < length l → (get_or l i (0 takes 0)).code ≡ code → ⊥) → length_in l code ≡ none
unfolding length_in
none_at [] code h = refl
none_at (x ∷ l) code h =
    ap (λ (b : Bool). or_if b x.length (length_in l code)) (ne_eqb x.code code (h 0 (omega arith))) ∙ none_at l code (λ i k e. h (suc i) (omega arith) e)

-- the first place that has it
some_at : (l : List Entry) (i : ℕ) → i < length l → ((j : ℕ) → j < i → (get_or l j (0 takes 0)).code ≡ (get_or l i (0 takes 0)).code → ⊥)
    → length_in l (get_or l i (0 takes 0)).code ≡ some (get_or l i (0 takes 0)).length
unfolding length_in
some_at [] i h first = absurd (not-suc-le-zero h)
some_at (x ∷ l) zero h first = ap (λ (b : Bool). or_if b x.length (length_in l x.code)) (eq-eqb x.code x.code refl)
some_at (x ∷ l) (suc i) h first =
    let code = (get_or l i (0 takes 0)).code in
    ap (λ (b : Bool). or_if b x.length (length_in l code)) (ne_eqb x.code code (first 0 (omega arith)))
    ∙ some_at l i (le_of_suc-le-suc h) (λ j k e. first (suc j) (omega arith) e)

-- where codes ascend, any place
pub found_at : (l : List Entry) → Ascending l → (i : ℕ) → i < length l → (code : ℕ) → (get_or l i (0 takes 0)).code ≡ code
    → length_in l code ≡ some (get_or l i (0 takes 0)).length
found_at l up i h code e =
    ap (length_in l) (sym e) ∙ some_at l i h (λ j k same. let less = up j i k h in absurd (omega arith))

-- ---- codes that ascend

above_all : (x : ℕ) (ys : List ℕ) → above x ys ≡ true → All (λ y. x < y) ys
unfolding above
above_all x [] e = tt
above_all x (y ∷ ys) e =
    let k = (and-eq-true_iff (ltb x y) (above y ys)).0 e in
    let less = ltb-true x y k.0 in
    (less, All-map (λ z l. lt_trans less l) ys (above_all y ys k.1))

above_ascends : (x : ℕ) (ys : List ℕ) → above x ys ≡ true → ascends ys ≡ true
unfolding above ascends
above_ascends x [] e = refl
above_ascends x (y ∷ ys) e = ((and-eq-true_iff (ltb x y) (above y ys)).0 e).1

pub ascending : (l : List Entry) → ascends (map (λ (e : Entry). e.code) l) ≡ true → Ascending l
unfolding ascends
ascending [] e i j h k = absurd (not-suc-le-zero k)
ascending (x ∷ l) e i zero h k = absurd (not-suc-le-zero h)
ascending (x ∷ l) e zero (suc j) h k =
    All-at (λ (y : Entry). x.code < y.code) l
    (All-of_map (λ (y : Entry). y.code) (λ c. x.code < c) l (above_all x.code (map (λ (y : Entry). y.code) l) e)) j (0 takes 0) (le_of_suc-le-suc k)
ascending (x ∷ l) e (suc i) (suc j) h k =
    ascending l (above_ascends x.code (map (λ (y : Entry). y.code) l) e) i j (le_of_suc-le-suc h) (le_of_suc-le-suc k)
