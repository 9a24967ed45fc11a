-- The kernel of a matrix: its rows are independent, all that the matrix makes zero are their sums, and with the rank they are as many as the rows.
-- Assumes nothing.
use mathlib.Core.Path.{◌≡◌, refl, sym, ap, ◌∙◌, subst}
use mathlib.Core.List.{List, map, map-append}
use Prim.Native.Nat.{ℕ, ◌+◌, ◌^◌, ◌<◌}
use native.Mathlib.Omega.{arith}
use lib.ListN.{length, length-map, length-append}
use Rattle.binar.specs.Bits.{bit}
use Rattle.binar.proofs.Sums.{bit_sum, bit_of_zero}
use Rattle.blocks.specs.Matrices.{times, All, units}
use Rattle.blocks.proofs.All.{All-map, All-map₂, All-any, All-to_map, All-right}
use Rattle.blocks.proofs.Units.{units_length, units_lt}
use Rattle.linear.specs.Span.{InSpan, Indep}
use Rattle.linear.proofs.Exchange.{steinitz_indep, indep_right}
use Rattle.linear.proofs.Instances.{𝕎, Prod}
use Rattle.linear.proofs.Maps.{span_map}
use Rattle.linear.proofs.Rows.{units_indep}
use Rattle.reduction.specs.Columns.{Echelon, rows, row_reduce_with_transform_lem, rank}
use Rattle.reduction.proofs.Unique.{past_pivots}
use Rattle.reduction.proofs.Transform.{row_is, transform_rows_lt, transform_length, up_rank, up_rref, beside_in, down_zero}
use Rattle.fixed_space.specs.FixedSpace.{kernel}

module _ (m : ℕ) (M : List ℕ) where
  abbrev all : Echelon (ℕ × ℕ)
  all = row_reduce_with_transform_lem m M

  pub kernel_lt : All (λ u. u < 2 ^ length M) (kernel m M)
  unfolding kernel
  kernel_lt =
      All-to_map (λ a. a.1) (λ u. u < 2 ^ length M) all.down (All-right (λ a. a.1 < 2 ^ length M) all.up all.down (transform_rows_lt m M))

  pub kernel_length : length (kernel m M) + rank m M ≡ length M
  unfolding kernel
  kernel_length = omega (arith, length-map all.down (λ a. a.1), length-append all.up all.down, transform_length m M, up_rank m M)

  -- what a row takes of the transform
  transform_in : (u : ℕ) → u < 2 ^ length M → InSpan 𝕎 (map (λ a. a.1) (rows all)) u
  transform_in u l = span_map (Prod 𝕎 𝕎) 𝕎 (λ a. a.1) (λ x y. refl) (rows all) (times u M, u) (beside_in m M u l)

  pub kernel_indep : Indep 𝕎 (kernel m M)
  unfolding kernel
  kernel_indep =
      indep_right 𝕎 (map (λ a. a.1) all.up) (map (λ a. a.1) all.down)
      (subst (Indep 𝕎) (map-append (λ a. a.1) all.up all.down)
      (steinitz_indep 𝕎 (map (λ a. a.1) (rows all)) (units (length M)) (units_indep (length M))
      (All-map (λ u l. transform_in u l) (units (length M)) (units_lt (length M)))
      (units_length (length M) ∙ sym (length-map (rows all) (λ a. a.1) ∙ transform_length m M))))

  module _ (small : All (λ v. v < 2 ^ m) M) where
    pub kernel_zero : All (λ u. times u M ≡ 0) (kernel m M)
    unfolding kernel
    kernel_zero =
        All-to_map (λ a. a.1) (λ u. times u M ≡ 0) all.down
        (All-map₂ (λ a e z. sym e ∙ z) all.down (All-right (λ a. a.0 ≡ times a.1 M) all.up all.down (row_is m M)) (down_zero m M small))

    -- every row that the matrix makes zero
    pub kernel_whole : (u : ℕ) → u < 2 ^ length M → times u M ≡ 0 → InSpan 𝕎 (kernel m M) u
    unfolding kernel
    kernel_whole u l e =
        span_map (Prod 𝕎 𝕎) 𝕎 (λ a. a.1) (λ x y. refl) all.down (times u M, u)
        (past_pivots (Prod 𝕎 𝕎) (λ c a. bit c a.0) (λ c x y. bit_sum c x.0 y.0) all.pivots all.up all.down (up_rref m M)
        (All-any (λ p. All-map (λ a z. ap (bit p) z ∙ bit_of_zero p) all.down (down_zero m M small)) all.pivots)
        (times u M, u) (All-any (λ p. ap (bit p) e ∙ bit_of_zero p) all.pivots) (beside_in m M u l))
