-- The reduction leaves an echelon list above: pivots ascend, each row has its first one at its pivot, and no other row has a one there. The rows below have none of the columns done.
-- Assumes nothing.
use mathlib.Core.Path.{◌≡◌, refl, sym, ap, ◌∙◌, subst}
use mathlib.Core.Bool.{Bool, true, false}
use mathlib.Core.List.{List, [], ◌∷◌, ◌++◌, map}
use mathlib.Core.Logic.{⊎_elim}
use Prim.Native.Nat.{ℕ, zero, suc, ◌+◌, ◌<◌}
use native.Mathlib.Omega.{arith}
use native.Mathlib.Nat.{eq-or-lt_of_le, le_of_suc-le-suc, lt_trans, not-suc-le-zero, lt_of_lt_of_le}
use lib.Dec.{eqb, eqb-zero-suc, eqb-suc-zero, eqb-suc-suc}
use lib.ListN.{length, get_or}
use Rattle.binar.specs.Bits.{◌⊻◌}
use Rattle.blocks.specs.Matrices.{All}
use Rattle.blocks.proofs.All.{All-map, All-map₂, All-any, All-to_map, All-append, All-at}
use Rattle.linear.specs.VectorSpace.{VectorSpace, scale}
use Rattle.linear.specs.Maps.{Additive}
use Rattle.linear.proofs.Sums.{add-zero, scale_o}
use Rattle.linear.proofs.Instances.{𝔹}
use Rattle.linear.proofs.Maps.{map_at}
use Rattle.reduction.specs.Columns.{Pulled, unpulled, pulled, pull, Echelon, clear, column_by, column, columns}
use Rattle.reduction.proofs.Columns.{Pull, pull_right}

-- the rows have none of the columns before c
abbrev pub Below : {A : Type 0} → (ℕ → A → Bool) → ℕ → List A → Type 0
Below has c ds = (k : ℕ) → k < c → All (λ y. has k y ≡ false) ds

-- pivots ascend; each row has its first one at its pivot, and none at the later pivots
abbrev pub Rref : {A : Type 0} → (ℕ → A → Bool) → List ℕ → List A → Type 0
Rref has [] [] = Unit {0}
Rref has [] (u ∷ us) = ⊥
Rref has (p ∷ ps) [] = ⊥
Rref has (p ∷ ps) (u ∷ us) = (has p u ≡ true) × ((k : ℕ) → k < p → has k u ≡ false) × All (λ q. (p < q) × (has q u ≡ false)) ps × Rref has ps us

-- the rows above with their pivots, all before column c
abbrev pub Above : {A : Type 0} → (ℕ → A → Bool) → ℕ → Echelon A → Type 0
Above has c h = Rref has h.pivots h.up × All (λ p. p < c) h.pivots

module _ (S : VectorSpace) (has : ℕ → S.Car → Bool) (has-add : (c : ℕ) → Additive S 𝔹 (has c)) where
  open S use {Car, add as ◌⊕◌, o}

  infixl 60 ◌⊕◌
  -- a column that x has not stays where x is added
  unchanged : (k : ℕ) (x y : Car) (b : Bool) → has k x ≡ false → has k (y ⊕ scale S b x) ≡ has k y
  unchanged k x y b e = map_at S 𝔹 (has k) (has-add k) y b x ∙ ap (λ t. has k y ⊻ t) (ap (scale 𝔹 b) e ∙ scale_o 𝔹 b) ∙ add-zero 𝔹 (has k y)

  cleared : (c : ℕ) (x y : Car) → has c x ≡ true → has c (clear o ◌⊕◌ (has c) x y) ≡ false
  cleared c x y e = map_at S 𝔹 (has c) (has-add c) y (has c y) x ∙ ap (λ t. has c y ⊻ scale 𝔹 (has c y) t) e ∙ same (has c y)
    where
      same : (b : Bool) → b ⊻ scale 𝔹 b true ≡ false
      same true = refl
      same false = refl

  -- ---- the rows below

  below_column : (c : ℕ) (h : Echelon Car) (out : Pulled Car) → ((P : Car → Type 0) → Pull (has c) P h.down out) → Below has c h.down
      → Below has (suc c) (column_by o ◌⊕◌ c (has c) h out).down
  below_column c h unpulled r z k l =
      ⊎_elim (λ e. subst (λ i. All (λ y. has i y ≡ false) h.down) (sym e) (r (λ _. Unit {0}))) (λ m. z k m) (eq-or-lt_of_le (le_of_suc-le-suc l))
  below_column c h (pulled x rest) r z k l = ⊎_elim here before (eq-or-lt_of_le (le_of_suc-le-suc l))
    where
      cl : Car → Car
      cl = clear o ◌⊕◌ (has c) x

      here : k ≡ c → All (λ y. has k y ≡ false) (map cl rest)
      here e =
          subst (λ i. All (λ y. has i y ≡ false) (map cl rest)) (sym e)
          (All-to_map cl (λ y. has c y ≡ false) rest (All-any (λ y. cleared c x y (r (λ _. Unit {0})).0) rest))

      before : k < c → All (λ y. has k y ≡ false) (map cl rest)
      before m =
          let w = (r (λ y. has k y ≡ false)).1 (z k m) in
          All-to_map cl (λ y. has k y ≡ false) rest (All-map (λ y e. unchanged k x y (has c y) w.0 ∙ e) rest w.1)

  pub below_columns : (k c : ℕ) (h : Echelon Car) → Below has c h.down → Below has (c + k) (columns o ◌⊕◌ has k c h).down
  unfolding columns
  below_columns zero c h z = λ i l. z i (omega arith)
  below_columns (suc k) c h z =
      let r = below_columns k (suc c) (column o ◌⊕◌ c (has c) h) (below_column c h (pull (has c) h.down) (λ P. pull_right (has c) P h.down) z) in
      λ i l. r i (omega arith)

  -- ---- the rows above

  -- one row more
  rref_more : (ps : List ℕ) (us : List Car) (x : Car) (c : ℕ) → Rref has ps us → All (λ p. p < c) ps → has c x ≡ true → ((k : ℕ) → k < c → has k x ≡ false)
      → Rref has (ps ++ (c ∷ [])) (map (clear o ◌⊕◌ (has c) x) us ++ (x ∷ []))
  rref_more [] [] x c r a e z = (e, z, tt, tt)
  rref_more [] (u ∷ us) x c r a e z = absurd r
  rref_more (p ∷ ps) [] x c r a e z = absurd r
  rref_more (p ∷ ps) (u ∷ us) x c r a e z = (
    unchanged p x u (has c u) (z p a.0) ∙ r.0,
    λ k l. unchanged k x u (has c u) (z k (lt_trans l a.0)) ∙ r.1 k l,
    All-append (λ q. (p < q) × (has q (clear o ◌⊕◌ (has c) x u) ≡ false)) ps (c ∷ [])
        (All-map₂ (λ q h l. (h.0, unchanged q x u (has c u) (z q l) ∙ h.1)) ps r.2 a.1) ((a.0, cleared c x u e), tt),
    rref_more ps us x c r.3 a.1 e z,
  )

  above_column : (c : ℕ) (h : Echelon Car) (out : Pulled Car) → ((P : Car → Type 0) → Pull (has c) P h.down out) → Below has c h.down
      → Above has c h → Above has (suc c) (column_by o ◌⊕◌ c (has c) h out)
  above_column c h unpulled r z (e, a) = (e, All-map (λ p l. omega arith) h.pivots a)
  above_column c h (pulled x rest) r z (e, a) = (
    rref_more h.pivots h.up x c e a (r (λ _. Unit {0})).0 (λ k l. ((r (λ y. has k y ≡ false)).1 (z k l)).0),
    All-append (λ p. p < suc c) h.pivots (c ∷ []) (All-map (λ p l. omega arith) h.pivots a) (omega arith, tt),
  )

  pub above_columns : (k c : ℕ) (h : Echelon Car) → Below has c h.down → Above has c h → Above has (c + k) (columns o ◌⊕◌ has k c h)
  unfolding columns
  above_columns zero c h z (e, a) = (e, All-map (λ p l. omega arith) h.pivots a)
  above_columns (suc k) c h z r =
      let out = pull (has c) h.down in
      let pulls : (P : Car → Type 0) → Pull (has c) P h.down out = λ P. pull_right (has c) P h.down in
      let s = above_columns k (suc c) (column o ◌⊕◌ c (has c) h) (below_column c h out pulls z) (above_column c h out pulls z r) in
      (s.0, All-map (λ p l. omega arith) (columns o ◌⊕◌ has k (suc c) (column o ◌⊕◌ c (has c) h)).pivots s.1)

-- ---- an echelon list by its indices

module _ {A : Type 0} (has : ℕ → A → Bool) where
  pub rref_length : (ps : List ℕ) (us : List A) → Rref has ps us → length ps ≡ length us
  rref_length [] [] r = refl
  rref_length [] (u ∷ us) r = absurd r
  rref_length (p ∷ ps) [] r = absurd r
  rref_length (p ∷ ps) (u ∷ us) r = ap suc (rref_length ps us r.3)

  pub rref_ascends : (ps : List ℕ) (us : List A) → Rref has ps us → (i j : ℕ) → i < j → j < length ps → get_or ps i 0 < get_or ps j 0
  rref_ascends [] us r i j l m = absurd (not-suc-le-zero m)
  rref_ascends (p ∷ ps) [] r i j l m = absurd r
  rref_ascends (p ∷ ps) (u ∷ us) r i zero l m = absurd (not-suc-le-zero l)
  rref_ascends (p ∷ ps) (u ∷ us) r zero (suc j) l m = (All-at (λ q. (p < q) × (has q u ≡ false)) ps r.2 j 0 (le_of_suc-le-suc m)).0
  rref_ascends (p ∷ ps) (u ∷ us) r (suc i) (suc j) l m = rref_ascends ps us r.3 i j (le_of_suc-le-suc l) (le_of_suc-le-suc m)

  -- no bit before the pivot
  pub rref_first : (ps : List ℕ) (us : List A) → Rref has ps us → (d : A) (i : ℕ) → i < length us → (k : ℕ) → k < get_or ps i 0 → has k (get_or us i d) ≡ false
  rref_first [] [] r d i l k m = absurd (not-suc-le-zero l)
  rref_first [] (u ∷ us) r d i l k m = absurd r
  rref_first (p ∷ ps) [] r d i l k m = absurd r
  rref_first (p ∷ ps) (u ∷ us) r d zero l k m = r.1 k m
  rref_first (p ∷ ps) (u ∷ us) r d (suc i) l k m = rref_first ps us r.3 d i (le_of_suc-le-suc l) k m

  -- before its pivots a list has nothing
  later_zero : (ps : List ℕ) (us : List A) (k : ℕ) → Rref has ps us → All (λ q. k < q) ps → All (λ u. has k u ≡ false) us
  later_zero [] [] k r a = tt
  later_zero [] (u ∷ us) k r a = absurd r
  later_zero (p ∷ ps) [] k r a = tt
  later_zero (p ∷ ps) (u ∷ us) k r a = (r.1 k a.0, later_zero ps us k r.3 a.1)

  pub tail_zero : (k p : ℕ) (ps : List ℕ) (u : A) (us : List A) → Rref has (p ∷ ps) (u ∷ us) → k < suc p → All (λ v. has k v ≡ false) us
  tail_zero k p ps u us r l = later_zero ps us k r.3 (All-map (λ q h. lt_of_lt_of_le l h.0) ps r.2)

  -- of all rows, the row of the pivot alone has a one there
  pub rref_at : (ps : List ℕ) (us : List A) → Rref has ps us → (d : A) (i j : ℕ) → i < length us → j < length us → has (get_or ps i 0) (get_or us j d) ≡ eqb i j
  rref_at [] [] r d i j l m = absurd (not-suc-le-zero l)
  rref_at [] (u ∷ us) r d i j l m = absurd r
  rref_at (p ∷ ps) [] r d i j l m = absurd r
  rref_at (p ∷ ps) (u ∷ us) r d zero zero l m = r.0
  rref_at (p ∷ ps) (u ∷ us) r d zero (suc j) l m =
      All-at (λ v. has p v ≡ false) us (tail_zero p p ps u us r (omega arith)) j d (le_of_suc-le-suc m) ∙ sym (eqb-zero-suc j)
  rref_at (p ∷ ps) (u ∷ us) r d (suc i) zero l m =
      (All-at (λ q. (p < q) × (has q u ≡ false)) ps r.2 i 0 (subst (λ n. i < n) (sym (rref_length ps us r.3)) (le_of_suc-le-suc l))).1 ∙ sym (eqb-suc-zero i)
  rref_at (p ∷ ps) (u ∷ us) r d (suc i) (suc j) l m =
      rref_at ps us r.3 d i j (le_of_suc-le-suc l) (le_of_suc-le-suc m) ∙ sym (eqb-suc-suc i j)

-- a list whose images are an echelon list
pub rref_of_map : {A B : Type 0} (f : A → B) (has : ℕ → B → Bool) (ps : List ℕ) (us : List A) → Rref has ps (map f us) → Rref (λ c a. has c (f a)) ps us
rref_of_map f has [] [] r = r
rref_of_map f has [] (u ∷ us) r = r
rref_of_map f has (p ∷ ps) [] r = r
rref_of_map f has (p ∷ ps) (u ∷ us) r = (r.0, r.1, r.2, rref_of_map f has ps us r.3)
