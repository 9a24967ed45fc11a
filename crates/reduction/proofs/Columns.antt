-- The steps of the reduction over any space: the rows keep their span, their number, and whatever sums keep; and they commute with maps.
-- Assumes nothing.
use mathlib.Core.Path.{◌≡◌, refl, sym, ap, ap₂, ◌∙◌}
use mathlib.Core.Bool.{Bool, true, false}
use mathlib.Core.List.{List, [], ◌∷◌, ◌++◌, map, map-append}
use Prim.Native.Nat.{ℕ, zero, suc}
use native.Mathlib.Omega.{arith}
use lib.ListN.{length, length-map, length-append}
use Rattle.binar.specs.Bits.{select}
use Rattle.blocks.specs.Matrices.{All}
use Rattle.blocks.proofs.All.{All-map, All-of_map, All-to_map, All-append, All-left, All-right}
use Rattle.linear.specs.VectorSpace.{VectorSpace, scale}
use Rattle.linear.specs.Span.{InSpan}
use Rattle.linear.proofs.Sums.{cancel_right}
use Rattle.linear.proofs.Exchange.{span_add, span_scale, span_members, span_trans}
use Rattle.reduction.specs.Columns.{Pulled, unpulled, pulled, behind, put_if, put, pull_if, pull, Echelon, rows, clear, column_by, column, columns}

-- ---- what is pulled

-- no row, and no member has the column; or x, which has it, and the rest: what holds of each member holds of x and of each of the rest, and back
module _ {A : Type 0} (has : A → Bool) (P : A → Type 0) where
  abbrev pub Pull : List A → Pulled A → Type 0
  Pull ts unpulled = All (λ t. has t ≡ false) ts
  Pull ts (pulled x rest) = (has x ≡ true) × (All P ts → P x × All P rest) × (P x → All P rest → All P ts)

  behind_right : (t u : A) (us : List A) (out : Pulled A) → has u ≡ false → Pull (t ∷ us) out → Pull (t ∷ u ∷ us) (behind u out)
  behind_right t u us unpulled f h = (h.0, (f, h.1))
  behind_right t u us (pulled x rest) f h = (
    h.0,
    λ a. let k = h.1 (a.0, a.1.1) in (k.0, (a.1.0, k.1)),
    λ px a. let k = h.2 px a.1 in (k.0, (a.0, k.1)),
  )

  put_right : (t : A) (us : List A) → has t ≡ false → Pull (t ∷ us) (put has t us)
  put_right t [] e = (e, tt)
  put_right t (u ∷ us) e = go (has u) refl (put_right t us e)
    where
      go : (b : Bool) → has u ≡ b → Pull (t ∷ us) (put has t us) → Pull (t ∷ u ∷ us) (put_if b t u us (put has t us))
      go true f ih = (f, λ a. (a.1.0, (a.0, a.1.1)), λ px a. (a.0, (px, a.1)))
      go false f ih = behind_right t u us (put has t us) f ih

  pub pull_right : (ts : List A) → Pull ts (pull has ts)
  pull_right [] = tt
  pull_right (t ∷ ts) = go (has t) refl
    where
      go : (b : Bool) → has t ≡ b → Pull (t ∷ ts) (pull_if b t ts (put has t ts))
      go true f = (f, λ a. a, λ px a. (px, a))
      go false f = put_right t ts f

-- how many rows there are then
abbrev Sized : {A : Type 0} → ℕ → Pulled A → Type 0
Sized n unpulled = Unit {0}
Sized n (pulled x rest) = n ≡ suc (length rest)

module _ {A : Type 0} (has : A → Bool) where
  put_size : (t : A) (us : List A) → Sized (suc (length us)) (put has t us)
  put_size t [] = tt
  put_size t (u ∷ us) = go (has u) (put has t us) (put_size t us)
    where
      go : (b : Bool) (out : Pulled A) → Sized (suc (length us)) out → Sized (suc (suc (length us))) (put_if b t u us out)
      go true out s = refl
      go false unpulled s = tt
      go false (pulled x rest) s = ap suc s

  pull_size : (ts : List A) → Sized (length ts) (pull has ts)
  pull_size [] = tt
  pull_size (t ∷ ts) = go (has t)
    where
      go : (b : Bool) → Sized (suc (length ts)) (pull_if b t ts (put has t ts))
      go true = refl
      go false = put_size t ts

-- ---- the rows over a space

module _ (S : VectorSpace) where
  open S use {Car, add as ◌⊕◌, o}

  infixl 60 ◌⊕◌
  -- each row lies in the span of the rows after a column has been cleared
  kept : (c : ℕ) (has : Car → Bool) (h : Echelon Car) (out : Pulled Car) → ((P : Car → Type 0) → Pull has P h.down out)
      → All (InSpan S (rows (column_by o ◌⊕◌ c has h out))) (rows h)
  kept c has h unpulled r = span_members S (rows h)
  kept c has h (pulled x rest) r =
      All-append In h.up h.down (All-map un h.up (All-of_map cl In h.up ups))
      ((r In).2 in_x (All-map un rest (All-of_map cl In rest downs)))
    where
      cl : Car → Car
      cl = clear o ◌⊕◌ has x

      us : List Car
      us = map cl h.up ++ (x ∷ [])

      ds : List Car
      ds = map cl rest

      In : Car → Type 0
      In = InSpan S (us ++ ds)

      upper : All In us
      upper = All-left In us ds (span_members S (us ++ ds))

      ups : All In (map cl h.up)
      ups = All-left In (map cl h.up) (x ∷ []) upper

      in_x : In x
      in_x = (All-right In (map cl h.up) (x ∷ []) upper).0

      downs : All In ds
      downs = All-right In us ds (span_members S (us ++ ds))

      un : (y : Car) → In (cl y) → In y
      un y k = rw (cancel_right S) at (span_add S (us ++ ds) (cl y) (scale S (has y) x) k (span_scale S (us ++ ds) (has y) x in_x))

  -- what holds of a row and of another holds of their sum
  abbrev pub Closed : (Car → Type 0) → Type 0
  Closed Q = (x y : Car) (b : Bool) → Q x → Q y → Q (y ⊕ scale S b x)

  closed : (Q : Car → Type 0) → Closed Q → (c : ℕ) (has : Car → Bool) (h : Echelon Car) (out : Pulled Car) → Pull has Q h.down out
      → All Q (rows h) → All Q (rows (column_by o ◌⊕◌ c has h out))
  closed Q q c has h unpulled r a = a
  closed Q q c has h (pulled x rest) r a =
      let k = r.1 (All-right Q h.up h.down a) in
      let cl : (y : Car) → Q y → Q (clear o ◌⊕◌ has x y) = λ y e. q x y (has y) k.0 e in
      All-append Q (map (clear o ◌⊕◌ has x) h.up ++ (x ∷ [])) (map (clear o ◌⊕◌ has x) rest)
      (All-append Q (map (clear o ◌⊕◌ has x) h.up) (x ∷ [])
      (All-to_map (clear o ◌⊕◌ has x) Q h.up (All-map cl h.up (All-left Q h.up h.down a))) (k.0, tt))
      (All-to_map (clear o ◌⊕◌ has x) Q rest (All-map cl rest k.1))

  -- ---- all columns

  module _ (has : ℕ → Car → Bool) where
    abbrev step : ℕ → Echelon Car → Echelon Car
    step c h = column o ◌⊕◌ c (has c) h

    -- each row at the start is a sum of rows at the end
    pub keeps_columns : (k c : ℕ) (h : Echelon Car) → All (InSpan S (rows (columns o ◌⊕◌ has k c h))) (rows h)
    unfolding columns
    keeps_columns zero c h = span_members S (rows h)
    keeps_columns (suc k) c h =
        All-map (λ y m. span_trans S (rows (step c h)) (rows (columns o ◌⊕◌ has k (suc c) (step c h))) y (keeps_columns k (suc c) (step c h)) m) (rows h)
        (kept c (has c) h (pull (has c) h.down) (λ P. pull_right (has c) P h.down))

    -- what sums keep holds of every row at the end
    pub closed_columns : (Q : Car → Type 0) → Closed Q → (k c : ℕ) (h : Echelon Car) → All Q (rows h) → All Q (rows (columns o ◌⊕◌ has k c h))
    unfolding columns
    closed_columns Q q zero c h a = a
    closed_columns Q q (suc k) c h a =
        closed_columns Q q k (suc c) (step c h) (closed Q q c (has c) h (pull (has c) h.down) (pull_right (has c) Q h.down) a)

-- ---- the number of rows

module _ {A : Type 0} (o : A) (add : A → A → A) where
  size_column : (k : ℕ) (has : A → Bool) (h : Echelon A) (out : Pulled A) → Sized (length h.down) out → length (rows (column_by o add k has h out)) ≡ length (rows h)
  size_column k has h unpulled s = refl
  size_column k has h (pulled x rest) s =
      let cl = clear o add has x in
      let a = length-append (map cl h.up ++ (x ∷ [])) (map cl rest) in
      let b = length-append (map cl h.up) (x ∷ []) in
      let c = length-append h.up h.down in
      let d = length-map h.up cl in
      let e = length-map rest cl in
      omega arith

  pub length_columns : (has : ℕ → A → Bool) (k c : ℕ) (h : Echelon A) → length (rows (columns o add has k c h)) ≡ length (rows h)
  unfolding columns
  length_columns has zero c h = refl
  length_columns has (suc k) c h =
      length_columns has k (suc c) (column o add c (has c) h) ∙ size_column c (has c) h (pull (has c) h.down) (pull_size (has c) h.down)

  -- where no row is left from the pivot row down, a column changes nothing
  pub columns_full : (has : ℕ → A → Bool) (k c : ℕ) (h : Echelon A) → h.down ≡ [] → columns o add has k c h ≡ h
  unfolding columns
  columns_full has zero c h e = refl
  columns_full has (suc k) c h e = ap (λ l. columns o add has k (suc c) (column_by o add c (has c) h (pull (has c) l))) e ∙ columns_full has k (suc c) h e

-- ---- mapped rows are reduced by the same steps

abbrev pub map_rows : {A B : Type 0} → (A → B) → Echelon A → Echelon B
map_rows f h = record { up = map f h.up; down = map f h.down; pivots = h.pivots }

abbrev map_pulled : {A B : Type 0} → (A → B) → Pulled A → Pulled B
map_pulled f unpulled = unpulled
map_pulled f (pulled x rest) = pulled (f x) (map f rest)

module _ {A B : Type 0} (f : A → B) where
  put_map : (has : B → Bool) (t : A) (us : List A) → put has (f t) (map f us) ≡ map_pulled f (put (λ a. has (f a)) t us)
  put_map has t [] = refl
  put_map has t (u ∷ us) = ap (put_if (has (f u)) (f t) (f u) (map f us)) (put_map has t us) ∙ go (has (f u)) (put (λ a. has (f a)) t us)
    where
      go : (b : Bool) (out : Pulled A) → put_if b (f t) (f u) (map f us) (map_pulled f out) ≡ map_pulled f (put_if b t u us out)
      go true out = refl
      go false unpulled = refl
      go false (pulled x rest) = refl

  pull_map : (has : B → Bool) (ts : List A) → pull has (map f ts) ≡ map_pulled f (pull (λ a. has (f a)) ts)
  pull_map has [] = refl
  pull_map has (t ∷ ts) = ap (pull_if (has (f t)) (f t) (map f ts)) (put_map has t ts) ∙ go (has (f t)) (put (λ a. has (f a)) t ts)
    where
      go : (b : Bool) (out : Pulled A) → pull_if b (f t) (map f ts) (map_pulled f out) ≡ map_pulled f (pull_if b t ts out)
      go true out = refl
      go false out = refl

  module _ (o : A) (add : A → A → A) (o' : B) (add' : B → B → B) (f-o : f o ≡ o') (f-add : (x y : A) → f (add x y) ≡ add' (f x) (f y)) where
    clear_map : (has : B → Bool) (x : A) (ys : List A) → map (clear o' add' has (f x)) (map f ys) ≡ map f (map (clear o add (λ a. has (f a)) x) ys)
    clear_map has x [] = refl
    clear_map has x (y ∷ ys) = ap₂ ◌∷◌ (ap (add' (f y)) (sel (has (f y))) ∙ sym (f-add y (select o (has (f y)) x))) (clear_map has x ys)
      where
        sel : (b : Bool) → select o' b (f x) ≡ f (select o b x)
        sel true = refl
        sel false = sym f-o

    column_map : (c : ℕ) (has : B → Bool) (h : Echelon A) (out : Pulled A)
        → column_by o' add' c has (map_rows f h) (map_pulled f out) ≡ map_rows f (column_by o add c (λ a. has (f a)) h out)
    column_map c has h unpulled = refl
    column_map c has h (pulled x rest) =
        ap₂ (λ u d. record { up = u; down = d; pivots = h.pivots ++ (c ∷ []) })
        (ap (λ l. l ++ (f x ∷ [])) (clear_map has x h.up) ∙ sym (map-append f (map (clear o add (λ a. has (f a)) x) h.up) (x ∷ []))) (clear_map has x rest)

    pub columns_map : (has : ℕ → B → Bool) (k c : ℕ) (h : Echelon A)
        → columns o' add' has k c (map_rows f h) ≡ map_rows f (columns o add (λ i a. has i (f a)) k c h)
    unfolding columns
    columns_map has zero c h = refl
    columns_map has (suc k) c h =
        ap (λ t. columns o' add' has k (suc c) (column_by o' add' c (has c) (map_rows f h) t)) (pull_map (has c) h.down)
        ∙ ap (columns o' add' has k (suc c)) (column_map c (has c) h (pull (λ a. has c (f a)) h.down))
        ∙ columns_map has k (suc c) (column o add c (λ a. has c (f a)) h)
