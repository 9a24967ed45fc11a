-- The choice that the bordered family and the greedy list share: of a list of vectors with a form E, the first member with pEp = 1,
-- else the sum of the first pair (first index lowest, then second) whose two forms differ.
-- Assumes nothing.
use Rattle.std.specs.Prelude.{Bool, true, false, List, [], ◌∷◌, ℕ}
use Rattle.std.proofs.Math.Option.{Option, none, some}
use Rattle.binar.specs.Bits.{◌⊻◌, ◌⊕◌}

abbrev pub or_if : {A : Type 0} → Bool → A → Option A → Option A
or_if true a later = some a
or_if false a later = later

abbrev pub or_else : {A : Type 0} → Option A → Option A → Option A
or_else none later = later
or_else (some a) later = some a

abbrev pub map_some : {A B : Type 0} → (A → B) → Option A → Option B
map_some f none = none
map_some f (some a) = some (f a)

module _ {A : Type 0} (add : A → A → A) (E : A → A → Bool) where
  unfoldable pub first_one_lem : List A → Option A
  first_one_lem [] = none
  first_one_lem (b ∷ bs) = or_if (E b b) b (first_one_lem bs)

  unfoldable pub uneven_with_lem : A → List A → Option A
  uneven_with_lem b [] = none
  uneven_with_lem b (y ∷ ys) = or_if (E b y ⊻ E y b) (add b y) (uneven_with_lem b ys)

  unfoldable pub first_uneven_lem : List A → Option A
  first_uneven_lem [] = none
  first_uneven_lem (b ∷ bs) = or_else (uneven_with_lem b bs) (first_uneven_lem bs)

  unfoldable pub pick : List A → Option A
  pick bs = or_else (first_one_lem bs) (first_uneven_lem bs)

-- the sum of two pairs of vectors
abbrev pub add_both : ℕ × ℕ → ℕ × ℕ → ℕ × ℕ
add_both a b = (a.0 ⊕ b.0, a.1 ⊕ b.1)
