-- Additive maps between spaces, forms with values in the two elements, and pairings.
-- Assumes nothing.
use Rattle.std.specs.Prelude.{◌≡◌, Bool, false}
use Rattle.binar.specs.Bits.{◌⊻◌}
use Rattle.linear.specs.VectorSpace.{VectorSpace}

abbrev pub Additive : (S T : VectorSpace) → (S.Car → T.Car) → Type 0
Additive S T f = (x y : S.Car) → f (S.add x y) ≡ T.add (f x) (f y)

-- a form with values in the two elements, additive in each argument
pub record Form (S : VectorSpace) : Type 0 where
  pub at : S.Car → S.Car → Bool
  pub left : (y a b : S.Car) → at (S.add a b) y ≡ at a y ⊻ at b y
  pub right : (x a b : S.Car) → at x (S.add a b) ≡ at x a ⊻ at x b

-- a form that is symmetric, and zero on the diagonal
pub record Pairing (S : VectorSpace) : Type 0 where
  pub at : S.Car → S.Car → Bool
  pub right : (x a b : S.Car) → at x (S.add a b) ≡ at x a ⊻ at x b
  pub comm : (x y : S.Car) → at x y ≡ at y x
  pub self : (x : S.Car) → at x x ≡ false
