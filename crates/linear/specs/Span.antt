-- The span of a list, and independence.
-- Assumes nothing.
use Rattle.std.specs.Prelude.{◌≡◌, Bool, List, [], ◌∷◌}
use Rattle.linear.specs.VectorSpace.{VectorSpace, scale}

module _ (S : VectorSpace) where
  open S use {Car, add as ◌⊕◌, o}

  infixl 60 ◌⊕◌
  -- x is a sum of members of the list: the head is taken or not, and the tail has the rest
  abbrev pub InSpan : List Car → Car → Type 0
  InSpan [] x = x ≡ o
  InSpan (v ∷ vs) x = (c : Bool) × InSpan vs (x ⊕ scale S c v)

  -- no member lies in the span of those behind it
  abbrev pub Indep : List Car → Type 0
  Indep [] = Unit {0}
  Indep (v ∷ vs) = (InSpan vs v → ⊥) × Indep vs
