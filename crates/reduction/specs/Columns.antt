-- The reduction of a list of rows by columns, ascending: the first row at or below the pivot row that has the bit is exchanged up, then cleared from every other row.
-- The rows are of any type with a sum, so that rows of a matrix and rows with their rows of the transform are reduced by the same steps.
-- Assumes nothing.
use Rattle.std.specs.Prelude.{Bool, true, false, ℕ, zero, suc, min, length, take}
use mathlib.Core.List.{List, [], ◌∷◌, ◌++◌, map, zip}
use Rattle.binar.specs.Bits.{select, bit}
use Rattle.binar.specs.Rows.{width}
use Rattle.blocks.specs.Matrices.{units}
use Rattle.symplectic.specs.Picks.{add_both}

-- the row that is exchanged up, and the rows that are then below it
pub data Pulled (A : Type 0) : Type 0 where
  unpulled : Pulled A
  pulled : A → List A → Pulled A

abbrev pub behind : {A : Type 0} → A → Pulled A → Pulled A
behind u unpulled = unpulled
behind u (pulled x rest) = pulled x (u ∷ rest)

-- row t takes the place of the first row that has the bit
abbrev pub put_if : {A : Type 0} → Bool → A → A → List A → Pulled A → Pulled A
put_if true t u us later = pulled u (t ∷ us)
put_if false t u us later = behind u later

abbrev pub put : {A : Type 0} → (A → Bool) → A → List A → Pulled A
put has t [] = unpulled
put has t (u ∷ us) = put_if (has u) t u us (put has t us)

-- the first row that has the bit, exchanged with the first row
abbrev pub pull_if : {A : Type 0} → Bool → A → List A → Pulled A → Pulled A
pull_if true t ts later = pulled t ts
pull_if false t ts later = later

abbrev pub pull : {A : Type 0} → (A → Bool) → List A → Pulled A
pull has [] = unpulled
pull has (t ∷ ts) = pull_if (has t) t ts (put has t ts)

-- where a reduction stands: the rows above the pivot row, the rows from it down, and the pivots, which are the columns for which the rows above were exchanged up
pub record Echelon (A : Type 0) : Type 0 where
  pub up : List A
  pub down : List A
  pub pivots : List ℕ

-- before the first column
abbrev pub unreduced : {A : Type 0} → List A → Echelon A
unreduced l = record { up = []; down = l; pivots = [] }

-- all rows, in their order
abbrev pub rows : {A : Type 0} → Echelon A → List A
rows h = h.up ++ h.down

module _ {A : Type 0} (o : A) (add : A → A → A) where
  -- row y, with x added where y has the bit
  abbrev pub clear : (A → Bool) → A → A → A
  clear has x y = add y (select o (has y) x)

  abbrev pub column_by : ℕ → (A → Bool) → Echelon A → Pulled A → Echelon A
  column_by c has h unpulled = h
  column_by c has h (pulled x rest) = record { up = map (clear has x) h.up ++ (x ∷ []); down = map (clear has x) rest; pivots = h.pivots ++ (c ∷ []) }

  -- column c, which a row has where the test says so
  abbrev pub column : ℕ → (A → Bool) → Echelon A → Echelon A
  column c has h = column_by c has h (pull has h.down)

  -- the columns c, c + 1, .. k of them
  unfoldable pub columns : (ℕ → A → Bool) → ℕ → ℕ → Echelon A → Echelon A
  columns has zero c h = h
  columns has (suc k) c h = columns has k (suc c) (column c (has c) h)

-- the rows of a matrix reduced by its first m columns, and the same steps on the identity: each row beside its row of the transform
unfoldable pub row_reduce_with_transform_lem : ℕ → List ℕ → Echelon (ℕ × ℕ)
row_reduce_with_transform_lem m M = columns (0, 0) add_both (λ c a. bit c a.0) m 0 (unreduced (zip M (units (length M))))

-- how many columns carried it
unfoldable pub rank : ℕ → List ℕ → ℕ
rank m M = length (row_reduce_with_transform_lem m M).pivots

-- the rows of A that are reduced in place, with the transform in the rows of T and the pivots in ps: as many as all three have, at most as many as a row has columns:
-- then a row of the transform has all its columns
unfoldable pub fitting : List ℕ → List ℕ → List ℕ → List ℕ
fitting A T ps = take (min width (min (length ps) (min (length A) (length T)))) A
