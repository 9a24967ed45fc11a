-- The vectors of a space in the order of their coefficients: each is the one before it and the sum of the first members, up to the lowest one of the coefficient.
-- Assumes nothing.
use mathlib.Core.Path.{◌≡◌, sym, ap, ap₂, ◌∙◌, subst}
use mathlib.Core.List.{List}
use Prim.Native.Nat.{ℕ, suc, ◌+◌, ◌-◌, ◌%◌, ◌^◌, ◌≤◌, ◌<◌}
use native.Mathlib.Nat.{mod-eq_of_lt}
use native.Mathlib.Omega.{arith}
use lib.Pow.{pow_pos}
use borrow.Author.Tests.{ne_eqb}
use Rattle.binar.specs.Bits.{◌⊕◌}
use Rattle.binar.specs.Rows.{width, row_bound, lowest}
use Rattle.binar.proofs.Widths.{pow_bound}
use Rattle.binar.proofs.Counting.{next_flips}
use Rattle.blocks.specs.Matrices.{times}
use Rattle.blocks.proofs.Products.{times_sum, lowest_row}

-- the last coefficient
pub ones_last : (d x : ℕ) → d ≤ width → x ≡ (2 ^ d - 1) % row_bound → x ≡ 2 ^ d - 1
ones_last d x h e = e ∙ mod-eq_of_lt (omega (arith, pow_bound d h, pow_pos d))

-- ---- one draw: c is behind, x comes next, last is the last of d members

module _ (d last c x : ℕ) (fits : d ≤ width) (last-is : last ≡ (2 ^ d - 1) % row_bound) (less : c < last) (x-is : x ≡ (c + 1) % row_bound) where
  last_below : last < 2 ^ d
  last_below = let e = ones_last d last fits last-is in omega (arith, pow_pos d)

  inside : c + 1 < row_bound
  inside = omega (arith, last_below, pow_bound d fits)

  pub next_is : x ≡ c + 1
  next_is = x-is ∙ mod-eq_of_lt inside

  -- the column of its lowest one
  pub next_column : (k : ℕ) → k ≡ lowest x → k < d
  next_column k e =
      let h = lowest_row d (c + 1) (ne_eqb (c + 1) 0 (λ z. omega arith)) inside (omega (arith, last_below)) in
      subst (λ n. n < d) (sym (e ∙ ap lowest next_is)) h.1

  pub next_drawn : (M : List ℕ) (p y k : ℕ) → k ≡ lowest x → p ≡ times c M → y ≡ times (2 ^ suc k - 1) M → p ⊕ y ≡ times x M
  next_drawn M p y k l e f =
      ap₂ ◌⊕◌ e (f ∙ ap (λ t. times (2 ^ suc t - 1) M) (l ∙ ap lowest next_is)) ∙ sym (times_sum M c (2 ^ suc (lowest (c + 1)) - 1))
      ∙ ap (λ t. times t M) (sym (next_flips c inside).1 ∙ sym next_is)
