-- Rows are equal in the code where their values are, and in their order.
-- Assumes nothing.
use mathlib.Core.Path.{◌≡◌, refl}
use Prim.Native.Nat.{ℕ}
use native.Mathlib.Omega.{arith}
use lib.Dec.{eqb, ltb}
use Rattle.std.specs.Ordering.{is_lt, nat_cmp}
use Rattle.std.proofs.lemmas.Bool.Decides.{nat_tests}
use Rattle.binar.specs.Rows.{val}
use Rattle.binar.specs.declared.Row.{Row}
use Rattle.binar.specs.contracts.RowPartialEq.TheImpl.{eq-value}

pub rows_eq : (a b : Row) → eq-value.it a b ≡ eqb (val a) (val b)
unfolding val
rows_eq a b = refl

less_is : (m n : ℕ) → is_lt (nat_cmp m n) ≡ ltb m n
less_is m n = grind (arith, nat_tests)

pub rows_lt : (a b : Row) → is_lt (nat_cmp a.word b.word) ≡ ltb (val a) (val b)
unfolding val
rows_lt a b = less_is a.word b.word
