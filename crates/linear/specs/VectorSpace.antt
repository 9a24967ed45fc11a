-- Vector spaces over two elements, abstractly: a sum that is associative and commutative, with a zero, in which each element is its own opposite.
-- Assumes nothing.
use Rattle.std.specs.Prelude.{◌≡◌, Bool}
use Rattle.binar.specs.Bits.{select}

pub record VectorSpace : Type 1 where
  pub Car : Type 0
  pub add : Car → Car → Car
  pub o : Car
  pub add_assoc : (x y z : Car) → add (add x y) z ≡ add x (add y z)
  pub add_comm : (x y : Car) → add x y ≡ add y x
  pub add_self : (x : Car) → add x x ≡ o
  pub zero-add : (x : Car) → add o x ≡ x

-- v where the bit is set, else the zero
abbrev pub scale : (S : VectorSpace) → Bool → S.Car → S.Car
scale S c v = select S.o c v
