-- The spaces in use: the two elements, rows of bits under their sum, and pairs.
-- Assumes nothing.
use mathlib.Core.Bool.{Bool, true, false}
use mathlib.Core.Path.{◌≡◌, refl}
use Prim.Native.Nat.{ℕ}
use Rattle.binar.specs.Bits.{◌⊻◌, ◌⊕◌}
use Rattle.binar.proofs.Sums.{bxor_assoc, bxor_comm, bxor_self, sum_assoc, sum_comm, sum_self, zero_sum}
use Rattle.linear.specs.VectorSpace.{VectorSpace, scale}

-- the two elements themselves
abbrev pub 𝔹 : VectorSpace
𝔹 = record { Car = Bool; add = ◌⊻◌; o = false; add_assoc = bxor_assoc; add_comm = bxor_comm; add_self = bxor_self; zero-add = λ x. refl }

pub scale_true : (c : Bool) → scale 𝔹 c true ≡ c
scale_true true = refl
scale_true false = refl

-- rows
abbrev pub 𝕎 : VectorSpace
𝕎 = record { Car = ℕ; add = ◌⊕◌; o = 0; add_assoc = sum_assoc; add_comm = sum_comm; add_self = sum_self; zero-add = zero_sum }

-- pairs
abbrev pub Prod : VectorSpace → VectorSpace → VectorSpace
Prod S T = record {
  Car = S.Car × T.Car;
  add = λ x y. (S.add x.0 y.0, T.add x.1 y.1);
  o = (S.o, T.o);
  add_assoc = λ x y z i. (S.add_assoc x.0 y.0 z.0 i, T.add_assoc x.1 y.1 z.1 i);
  add_comm = λ x y i. (S.add_comm x.0 y.0 i, T.add_comm x.1 y.1 i);
  add_self = λ x i. (S.add_self x.0 i, T.add_self x.1 i);
  zero-add = λ x i. (S.zero-add x.0 i, T.zero-add x.1 i);
}
