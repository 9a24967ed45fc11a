-- A space is given by a basis, and a form E on it: `E p y` is pEy.
-- Assumes nothing.
use Rattle.std.specs.Prelude.{Bool, true, false, ◌&&◌, not, List, [], ◌∷◌, map, ℕ}
use Rattle.std.specs.Bool.{beq}
use Rattle.binar.specs.Bits.{select, ◌⊕◌}

-- ---- what a draw passes on

abbrev pub drop_or_keep : {A : Type 0} → Bool → A → List A → List A → List A
drop_or_keep true m changed kept = changed
drop_or_keep false m changed kept = m ∷ kept

-- the first member m with pEm = 1 is dropped and added to each other member y with pEy = 1, order kept; `f y` is pEy
unfoldable pub complement : (ℕ → Bool) → List ℕ → List ℕ
complement f [] = []
complement f (m ∷ bs) = drop_or_keep (f m) m (map (λ y. y ⊕ select 0 (f y) m) bs) (complement f bs)

-- ---- a form that is alternating: zero diagonal, symmetric

unfoldable pub symmetric_with : (ℕ → ℕ → Bool) → ℕ → List ℕ → Bool
symmetric_with E b [] = true
symmetric_with E b (y ∷ ys) = beq (E b y) (E y b) && symmetric_with E b ys

unfoldable pub is_alternating_lem : (ℕ → ℕ → Bool) → List ℕ → Bool
is_alternating_lem E [] = true
is_alternating_lem E (b ∷ bs) = not (E b b) && (symmetric_with E b bs && is_alternating_lem E bs)
