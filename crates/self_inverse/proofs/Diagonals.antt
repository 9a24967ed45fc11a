-- The ones on a diagonal, row by row.
-- Assumes nothing.
use mathlib.Core.Path.{◌≡◌, refl, sym, ap, ap₂, ◌∙◌, subst}
use mathlib.Core.Bool.{Bool, true, false}
use mathlib.Core.List.{List}
use mathlib.Core.Logic.{⊎_elim}
use Prim.Native.Nat.{ℕ, ◌+◌, ◌/◌, ◌%◌, ◌^◌, ◌≤◌, ◌<◌}
use native.Mathlib.Nat.{div-eq_of_lt, eq-or-lt_of_le, one-mul}
use native.Mathlib.Omega.{arith}
use lib.Pow.{pow-lt, shl-shr}
use lib.Dec.{eqb}
use lib.ListN.{length, get_or}
use Rattle.binar.specs.Bits.{◌⊻◌, select, bit, ◌⊕◌}
use Rattle.binar.proofs.Digits.{bit_is}
use Rattle.binar.proofs.Sums.{bxor_comm, bit_sum, sum_lt}
use Rattle.binar.proofs.Dots.{dot_comm}
use Rattle.binar.proofs.Ones.{dot_unit}
use Rattle.blocks.proofs.Products.{select_lt}
use Rattle.linear.proofs.Instances.{𝔹, 𝕎}
use Rattle.linear.proofs.Maps.{map_scale}
use Rattle.self_inverse.specs.inner.Peels.{OnDiagonal}

-- a row has no column from its width on
bit_past : (k a : ℕ) → a < 2 ^ k → bit k a ≡ false
bit_past k a l = bit_is k a ∙ ap (λ (t : ℕ). eqb (t % 2) 1) (div-eq_of_lt l)

bit_other : (j i : ℕ) → j < i → bit j (2 ^ i) ≡ false
bit_other j i l = sym (dot_unit (2 ^ i) j) ∙ dot_comm (2 ^ i) (2 ^ j) ∙ dot_unit (2 ^ j) i ∙ bit_past i (2 ^ j) (pow-lt l)

bit_own : (i : ℕ) → bit i (2 ^ i) ≡ true
bit_own i = bit_is i (2 ^ i) ∙ ap (λ (t : ℕ). eqb (t / 2 ^ i % 2) 1) (sym (one-mul (2 ^ i))) ∙ ap (λ (t : ℕ). eqb (t % 2) 1) (shl-shr 1 i)

-- those of the first i rows
pub record OnFirst (R : List ℕ) (i d : ℕ) : Type 0 where
  pub fits : d < 2 ^ i
  pub on : (j : ℕ) → j < i → bit j d ≡ bit j (get_or R j 0)

pub diagonal_none : (R : List ℕ) (d : ℕ) → d ≡ 0 → OnFirst R 0 d
diagonal_none R d e = record { fits = omega arith; on = λ j l. absurd (omega arith) }

bit_added : (j d : ℕ) (b : Bool) (v : ℕ) → bit j (d ⊕ select 0 b v) ≡ bit j d ⊻ select false b (bit j v)
bit_added j d b v = bit_sum j d (select 0 b v) ∙ ap (λ t. bit j d ⊻ t) (map_scale 𝕎 𝔹 (bit j) (bit_sum j) b v)

pub diagonal_next : (R : List ℕ) (i d : ℕ) → OnFirst R i d → OnFirst R (i + 1) (d ⊕ select 0 (bit i (get_or R i 0)) (2 ^ i))
diagonal_next R i d h = record {
  fits = let up : 2 ^ i < 2 ^ (i + 1) = pow-lt (omega arith) in let l = h.fits in sum_lt (i + 1) d (select 0 own (2 ^ i)) (omega arith) (select_lt (i + 1) own (2 ^ i) up);
  on = λ j l. ⊎_elim (λ e. last j e) (λ m. earlier j m) (eq-or-lt_of_le (below j l));
}
  where
    own : Bool
    own = bit i (get_or R i 0)

    below : (j : ℕ) → j < i + 1 → j ≤ i
    below j l = omega arith

    none : (b : Bool) → select false b false ≡ false
    none true = refl
    none false = refl

    one : (b : Bool) → select false b true ≡ b
    one true = refl
    one false = refl

    last : (j : ℕ) → j ≡ i → bit j (d ⊕ select 0 own (2 ^ i)) ≡ bit j (get_or R j 0)
    last j e =
        ap (λ k. bit k (d ⊕ select 0 own (2 ^ i))) e ∙ bit_added i d own (2 ^ i) ∙ ap₂ (λ s t. s ⊻ select false own t) (bit_past i d h.fits) (bit_own i) ∙ one own
        ∙ sym (ap (λ k. bit k (get_or R k 0)) e)

    earlier : (j : ℕ) → j < i → bit j (d ⊕ select 0 own (2 ^ i)) ≡ bit j (get_or R j 0)
    earlier j l =
        bit_added j d own (2 ^ i) ∙ ap (λ t. bit j d ⊻ select false own t) (bit_other j i l) ∙ ap (λ t. bit j d ⊻ t) (none own) ∙ bxor_comm (bit j d) false ∙ h.on j l

pub diagonal_end : (R : List ℕ) (m d : ℕ) → m ≡ length R → OnFirst R m d → OnDiagonal R d
diagonal_end R m d e h = record { fits = subst (λ k. d < 2 ^ k) e h.fits; on = λ j l. h.on j (omega arith) }
