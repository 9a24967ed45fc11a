-- The reduction with its transform: each row at the end is its row of the transform times the matrix; rows, pivots and rank are those of the plain reduction.
-- Assumes nothing.
use mathlib.Core.Path.{◌≡◌, refl, sym, ap, ap₂, ◌∙◌, subst}
use mathlib.Core.Bool.{true, false}
use mathlib.Core.List.{List, ◌++◌, map, map-map, map-append, zip}
use Prim.Native.Nat.{ℕ, ◌^◌, ◌≤◌, ◌<◌}
use native.Mathlib.Omega.{arith}
use lib.ListN.{length, length-map}
use Rattle.binar.specs.Bits.{bit, ◌⊕◌}
use Rattle.binar.proofs.Sums.{sum_lt}
use Rattle.blocks.specs.Matrices.{times, matmul, All, units}
use Rattle.blocks.proofs.All.{All-map, All-to_map, All-of_map, All-left}
use Rattle.blocks.proofs.Products.{times_sum, matmul_is}
use Rattle.blocks.proofs.Units.{units_length, units_lt, times_units}
use Rattle.linear.specs.Span.{InSpan, Indep}
use Rattle.linear.proofs.Sums.{add-zero}
use Rattle.linear.proofs.Exchange.{span_trans}
use Rattle.linear.proofs.Instances.{𝕎, Prod}
use Rattle.linear.proofs.Maps.{span_map}
use Rattle.linear.proofs.Rows.{units_span}
use Rattle.symplectic.specs.Picks.{add_both}
use Rattle.symplectic.proofs.Lists.{map_eq, zip_map}
use Rattle.reduction.specs.Columns.{rows, unreduced, columns, row_reduce_with_transform_lem, rank}
use Rattle.reduction.specs.inner.Plain.{reduced}
use Rattle.reduction.proofs.Columns.{Closed, keeps_columns, closed_columns, length_columns, map_rows, columns_map}
use Rattle.reduction.proofs.Echelon.{Rref, rref_of_map}
use Rattle.reduction.proofs.Reduced.{reduced_rref, pivots_length, up_length, up_width, reduced_indep, reduced_zero, reduced_out}

module _ (m : ℕ) (M : List ℕ) where
  start_is : zip M (units (length M)) ≡ map (λ u. (times u M, u)) (units (length M))
  start_is = ap (λ l. zip l (units (length M))) (sym (times_units M)) ∙ zip_map (λ u. times u M) (units (length M))

  -- a row beside its row of the transform
  abbrev Beside : ℕ × ℕ → Type 0
  Beside a = (a.0 ≡ times a.1 M) × (a.1 < 2 ^ length M)

  beside_closed : Closed (Prod 𝕎 𝕎) Beside
  beside_closed x y true h k = (ap₂ ◌⊕◌ k.0 h.0 ∙ sym (times_sum M y.1 x.1), sum_lt (length M) y.1 x.1 k.1 h.1)
  beside_closed x y false h k = subst Beside (sym (add-zero (Prod 𝕎 𝕎) y)) k

  beside : All Beside (rows (row_reduce_with_transform_lem m M))
  unfolding row_reduce_with_transform_lem
  beside =
      closed_columns (Prod 𝕎 𝕎) (λ c a. bit c a.0) Beside beside_closed m 0 (unreduced (zip M (units (length M))))
      (subst (All Beside) (sym start_is)
      (All-to_map (λ u. (times u M, u)) Beside (units (length M)) (All-map (λ u h. (refl, h)) (units (length M)) (units_lt (length M)))))

  -- every row is its row of the transform times the matrix
  pub row_is : All (λ a. a.0 ≡ times a.1 M) (rows (row_reduce_with_transform_lem m M))
  row_is = All-map (λ a h. h.0) (rows (row_reduce_with_transform_lem m M)) beside

  pub transform_rows_lt : All (λ a. a.1 < 2 ^ length M) (rows (row_reduce_with_transform_lem m M))
  transform_rows_lt = All-map (λ a h. h.1) (rows (row_reduce_with_transform_lem m M)) beside

  -- so are the rows above
  pub basis_row_is : All (λ a. a.0 ≡ times a.1 M) (row_reduce_with_transform_lem m M).up
  basis_row_is = All-left (λ a. a.0 ≡ times a.1 M) (row_reduce_with_transform_lem m M).up (row_reduce_with_transform_lem m M).down row_is

  pub basis_transform_lt : All (λ a. a.1 < 2 ^ length M) (row_reduce_with_transform_lem m M).up
  basis_transform_lt = All-left (λ a. a.1 < 2 ^ length M) (row_reduce_with_transform_lem m M).up (row_reduce_with_transform_lem m M).down transform_rows_lt

  -- the reduced rows are the transform times the matrix
  pub reduced_product : map (λ a. a.0) (rows (row_reduce_with_transform_lem m M)) ≡ matmul (map (λ a. a.1) (rows (row_reduce_with_transform_lem m M))) M
  reduced_product =
      map_eq (λ a. a.0) (λ a. times a.1 M) (rows (row_reduce_with_transform_lem m M)) row_is
      ∙ sym (matmul_is (map (λ a. a.1) (rows (row_reduce_with_transform_lem m M))) M ∙ map-map (λ r. times r M) (λ a. a.1) (rows (row_reduce_with_transform_lem m M)))

  -- the rows alone are those of the plain reduction
  pub rows_reduced : map_rows (λ a. a.0) (row_reduce_with_transform_lem m M) ≡ reduced m M
  unfolding row_reduce_with_transform_lem reduced
  rows_reduced =
      sym (columns_map (λ a. a.0) (0, 0) add_both 0 ◌⊕◌ refl (λ x y. refl) bit m 0 (unreduced (zip M (units (length M)))))
      ∙ ap (λ l. columns 0 ◌⊕◌ bit m 0 (unreduced l)) start_rows
    where
      start_rows : map (λ a. a.0) (zip M (units (length M))) ≡ M
      start_rows = ap (map (λ a. a.0)) start_is ∙ map-map (λ a. a.0) (λ u. (times u M, u)) (units (length M)) ∙ times_units M

  pub basis_reduced : map (λ a. a.0) (row_reduce_with_transform_lem m M).up ≡ (reduced m M).up
  basis_reduced = ap (λ h. h.up) rows_reduced

  pub rest_reduced : map (λ a. a.0) (row_reduce_with_transform_lem m M).down ≡ (reduced m M).down
  rest_reduced = ap (λ h. h.down) rows_reduced

  pub all_reduced : map (λ a. a.0) (rows (row_reduce_with_transform_lem m M)) ≡ rows (reduced m M)
  all_reduced = let h = row_reduce_with_transform_lem m M in map-append (λ a. a.0) h.up h.down ∙ ap₂ ◌++◌ basis_reduced rest_reduced

  pub pivots_reduced : (row_reduce_with_transform_lem m M).pivots ≡ (reduced m M).pivots
  pivots_reduced = ap (λ h. h.pivots) rows_reduced

  -- the rows above are an echelon list, alone and beside the transform
  pub above_rref : Rref bit (row_reduce_with_transform_lem m M).pivots (map (λ a. a.0) (row_reduce_with_transform_lem m M).up)
  above_rref =
      subst (λ l. Rref bit (row_reduce_with_transform_lem m M).pivots l) (sym basis_reduced)
      (subst (λ ps. Rref bit ps (reduced m M).up) (sym pivots_reduced) (reduced_rref m M))

  pub up_rref : Rref (λ c a. bit c a.0) (row_reduce_with_transform_lem m M).pivots (row_reduce_with_transform_lem m M).up
  up_rref = rref_of_map (λ a. a.0) bit (row_reduce_with_transform_lem m M).pivots (row_reduce_with_transform_lem m M).up above_rref

  -- what a row takes of the matrix, beside it, is a sum of the rows
  pub beside_in : (u : ℕ) → u < 2 ^ length M → InSpan (Prod 𝕎 𝕎) (rows (row_reduce_with_transform_lem m M)) (times u M, u)
  unfolding row_reduce_with_transform_lem
  beside_in u l =
      let start = zip M (units (length M)) in
      span_trans (Prod 𝕎 𝕎) start (rows (row_reduce_with_transform_lem m M)) (times u M, u) (keeps_columns (Prod 𝕎 𝕎) (λ c a. bit c a.0) m 0 (unreduced start))
      (subst (λ S. InSpan (Prod 𝕎 𝕎) S (times u M, u)) (sym start_is)
      (span_map 𝕎 (Prod 𝕎 𝕎) (λ v. (times v M, v)) (λ x y. ap (λ t. (t, x ⊕ y)) (times_sum M x y)) (units (length M)) u (units_span (length M) u l)))

  -- the rank is the number of rows above
  pub rank_plain : rank m M ≡ length (reduced m M).up
  unfolding rank
  rank_plain = ap length pivots_reduced ∙ pivots_length m M

  pub up_rank : length (row_reduce_with_transform_lem m M).up ≡ rank m M
  up_rank = sym (length-map (row_reduce_with_transform_lem m M).up (λ a. a.0)) ∙ ap length basis_reduced ∙ sym rank_plain

  pub rank_length : rank m M ≤ length M
  rank_length = omega (arith, rank_plain, up_length m M)

  pub transform_length : length (rows (row_reduce_with_transform_lem m M)) ≡ length M
  unfolding row_reduce_with_transform_lem
  transform_length =
      length_columns (0, 0) add_both (λ c a. bit c a.0) m 0 (unreduced (zip M (units (length M))))
      ∙ ap length start_is ∙ length-map (units (length M)) (λ u. (times u M, u)) ∙ units_length (length M)

  pub up_indep : Indep 𝕎 (map (λ a. a.0) (row_reduce_with_transform_lem m M).up)
  up_indep = subst (Indep 𝕎) (sym basis_reduced) (reduced_indep m M)

  module _ (small : All (λ v. v < 2 ^ m) M) where
    pub rank_width : rank m M ≤ m
    rank_width = omega (arith, rank_plain, up_width m M small)

    -- every row of the matrix is a sum of rows above
    pub up_spans : All (InSpan 𝕎 (map (λ a. a.0) (row_reduce_with_transform_lem m M).up)) M
    up_spans = subst (λ B. All (InSpan 𝕎 B) M) (sym basis_reduced) (reduced_out m M small)

    -- the rows below are zero
    pub down_zero : All (λ a. a.0 ≡ 0) (row_reduce_with_transform_lem m M).down
    down_zero =
        All-of_map (λ a. a.0) (λ v. v ≡ 0) (row_reduce_with_transform_lem m M).down (subst (All (λ v. v ≡ 0)) (sym rest_reduced) (reduced_zero m M small))
