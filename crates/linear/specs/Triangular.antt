-- Lists that are triangular for a form, and good bases.
-- Assumes nothing.
use Rattle.std.specs.Prelude.{◌≡◌, Bool, true, false, List, [], ◌∷◌, ℕ, length}
use Rattle.blocks.specs.Matrices.{All}

-- each member's form with itself is one, and with each later one zero
abbrev pub Tri : {A : Type 0} → (A → A → Bool) → List A → Type 0
Tri E [] = Unit {0}
Tri E (p ∷ ps) = (E p p ≡ true) × All (λ q. E p q ≡ false) ps × Tri E ps

-- a triangular list of n members of a space
pub record Good {A : Type 0} (E : A → A → Bool) (In : A → Type 0) (n : ℕ) : Type 0 where
  pub list : List A
  pub tri : Tri E list
  pub within : All In list
  pub size : length list ≡ n
