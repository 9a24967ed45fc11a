-- Symmetric matrices taken apart: vectors v, each as a column times itself as a row, that add up to one.
-- Assumes nothing.
use Rattle.std.specs.Prelude.{◌≡◌, false, ◌⊎◌, List, [], ◌∷◌, ℕ, suc, ◌+◌, ◌/◌, ◌^◌, ◌≤◌, ◌<◌, length, get_or}
use Rattle.binar.specs.Bits.{select, odd, bit, dot, ◌⊕◌}
use Rattle.binar.specs.Rows.{width}
use Rattle.blocks.specs.Matrices.{times, All}
use Rattle.reduction.specs.Columns.{rank}

-- row i gains v where u has column i: u as a column times v as a row is added
abbrev pub plus_outer : ℕ → ℕ → List ℕ → List ℕ
plus_outer u v [] = []
plus_outer u v (x ∷ M) = (x ⊕ select 0 (odd u) v) ∷ plus_outer (u / 2) v M

-- x times the sum of all v as a column times v as a row
abbrev pub outers : List ℕ → ℕ → ℕ
outers [] x = 0
outers (v ∷ vs) x = select 0 (dot x v) v ⊕ outers vs x

-- three vectors in the place of p: together they give what p gives, and f and s crosswise
abbrev pub three : ℕ → ℕ → ℕ → List ℕ
three f s p = (p ⊕ f) ∷ (p ⊕ s) ∷ ((p ⊕ f) ⊕ s) ∷ []

-- the last vector of a list makes way for three; where there is none, the zero vector
abbrev pub with_pair : ℕ → ℕ → List ℕ → List ℕ
with_pair f s [] = three f s 0
with_pair f s (p ∷ []) = three f s p
with_pair f s (v ∷ w ∷ vs) = v ∷ with_pair f s (w ∷ vs)

-- ---- what is left of a matrix

-- a symmetric square matrix
pub record SymmetricSquare (R : List ℕ) : Type 0 where
  pub symmetric : (x y : ℕ) → dot (times x R) y ≡ dot x (times y R)
  pub bounded : All (λ v. v < 2 ^ length R) R

-- one whose rows are no wider than a row can be: a list has room for what is peeled off it
pub record Peelable (R : List ℕ) : Type 0 where
  pub square : SymmetricSquare R
  pub narrow : length R ≤ width

-- each vector times it has no dot with itself: of a symmetric matrix, the diagonal is zero
abbrev pub Level : List ℕ → Type 0
Level R = (x : ℕ) → dot (times x R) x ≡ false

-- d has the ones on the diagonal
pub record OnDiagonal (R : List ℕ) (d : ℕ) : Type 0 where
  pub fits : d < 2 ^ length R
  pub on : (i : ℕ) → i < length R → bit i d ≡ bit i (get_or R i 0)

-- ---- what was taken

-- v is a sum of rows of M
abbrev pub Image : List ℕ → ℕ → Type 0
Image M v = (z : ℕ) × (times z M ≡ v)

-- M is what was taken and R; both are of sums of its rows
pub record Split (M vs R : List ℕ) : Type 0 where
  pub sums : (x : ℕ) → times x M ≡ outers vs x ⊕ times x R
  pub inside : (x : ℕ) → Image M (times x R)
  pub from : All (Image M) vs

-- nothing is left
pub record Sums (M vs : List ℕ) : Type 0 where
  pub sums : (x : ℕ) → times x M ≡ outers vs x
  pub from : All (Image M) vs

-- k vectors, with rank `left` of what was left, have become so many, with rank `after`: as many more as the rank is less, or one more than
-- that where there were none, and something was left
abbrev pub Grown : ℕ → ℕ → ℕ → ℕ → Type 0
Grown k left count after = (count + after ≤ k + left) ⊎ ((k ≡ 0) × ((0 < left) × ((0 < count) × (count + after ≤ suc left))))

-- the vectors and what is left, before and after a pair is peeled that clears row i
pub record Paired (i : ℕ) (R R' vs vs' : List ℕ) : Type 0 where
  pub square : length R' ≡ length R
  pub rest : SymmetricSquare R'
  pub level : Level R'
  pub gone : times (2 ^ i) R' ≡ 0
  pub zero : (x : ℕ) → times x R ≡ 0 → times x R' ≡ 0
  pub split : (M : List ℕ) → Split M vs R → Split M vs' R'
  pub more : length vs ≤ length vs'
  pub grown : Grown (length vs) (rank (length R) R) (length vs') (rank (length R) R')

-- as many vectors as the rank, or one more where the diagonal is zero
pub record Decomposed (M vs : List ℕ) : Type 0 where
  pub all : Sums M vs
  pub few : let r = rank (length M) M in (length vs ≤ r) ⊎ (Level M × ((0 < r) × (length vs ≤ suc r)))
