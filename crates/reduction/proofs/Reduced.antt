-- A matrix reduced by its first m columns, without a transform: its span, its pivots, how many rows stand above, and that there is one reduced basis for each span.
-- Assumes nothing.
use mathlib.Core.Path.{◌≡◌, sym, ap, ap₂, ◌∙◌, subst}
use mathlib.Core.Bool.{Bool, false}
use mathlib.Core.List.{List, [], ◌∷◌}
use Prim.Native.Nat.{ℕ, zero, suc, ◌+◌, ◌/◌, ◌^◌, ◌≤◌, ◌<◌}
use native.Mathlib.Omega.{arith}
use native.Mathlib.Nat.{le_refl, le_of_suc-le-suc, not-suc-le-zero}
use lib.ListN.{length, get_or, length-append}
use lib.Pow.{pow_pos}
use Rattle.binar.specs.Bits.{◌⊻◌, odd, bit, ◌⊕◌}
use Rattle.binar.proofs.Digits.{bit_suc}
use Rattle.binar.proofs.Sums.{bit_sum, bit_zero_is_odd, same_bits, bit_of_zero}
use Rattle.blocks.specs.Matrices.{times, All, units}
use Rattle.blocks.proofs.All.{All-map, All-map₂, All-append, All-left, All-right, All-at}
use Rattle.blocks.proofs.Products.{times_cons}
use Rattle.blocks.proofs.Units.{units_length}
use Rattle.linear.specs.VectorSpace.{scale}
use Rattle.linear.specs.Span.{InSpan, Indep}
use Rattle.linear.proofs.Sums.{add-zero, scale_o}
use Rattle.linear.proofs.Exchange.{span_zero, span_add, span_scale, span_members, span_trans, steinitz}
use Rattle.linear.proofs.Instances.{𝔹, 𝕎, scale_true}
use Rattle.linear.proofs.Maps.{map_at, span_kernel}
use Rattle.linear.proofs.Rows.{times_in, units_span, span_lt}
use Rattle.symplectic.proofs.Lists.{All-each}
use Rattle.reduction.specs.Columns.{rows, unreduced}
use Rattle.reduction.specs.inner.Plain.{reduced}
use Rattle.reduction.proofs.Columns.{keeps_columns, closed_columns, length_columns}
use Rattle.reduction.proofs.Echelon.{Below, Rref, Above, below_columns, above_columns, rref_length, tail_zero}
use Rattle.reduction.proofs.Unique.{rref_indep, unique}

-- the bits of a sum of the rows at the pivots say which rows it takes
pub times_pivot : (ps us : List ℕ) → Rref bit ps us → (c i : ℕ) → i < length us → bit (get_or ps i 0) (times c us) ≡ bit i c
times_pivot [] [] r c i l = absurd (not-suc-le-zero l)
times_pivot [] (u ∷ us) r c i l = absurd r
times_pivot (p ∷ ps) [] r c i l = absurd r
times_pivot (p ∷ ps) (u ∷ us) r c zero l =
    ap (bit p) (times_cons c u us) ∙ map_at 𝕎 𝔹 (bit p) (bit_sum p) (times (c / 2) us) (odd c) u
    ∙ ap₂ (λ s t. s ⊻ scale 𝔹 (odd c) t)
    (span_kernel 𝕎 𝔹 (bit p) (bit_sum p) us (tail_zero bit p p ps u us r (le_refl (suc p))) (times (c / 2) us) (times_in (c / 2) us)) r.0
    ∙ scale_true (odd c) ∙ sym (bit_zero_is_odd c)
times_pivot (p ∷ ps) (u ∷ us) r c (suc i) l =
    ap (bit (get_or ps i 0)) (times_cons c u us) ∙ map_at 𝕎 𝔹 (bit (get_or ps i 0)) (bit_sum (get_or ps i 0)) (times (c / 2) us) (odd c) u
    ∙ ap₂ (λ s t. s ⊻ scale 𝔹 (odd c) t) (times_pivot ps us r.3 (c / 2) i (le_of_suc-le-suc l)) none
    ∙ ap (λ t. bit i (c / 2) ⊻ t) (scale_o 𝔹 (odd c)) ∙ add-zero 𝔹 (bit i (c / 2)) ∙ sym (bit_suc i c)
  where
    none : bit (get_or ps i 0) u ≡ false
    none = (All-at (λ q. (p < q) × (bit q u ≡ false)) ps r.2 i 0 (subst (λ n. i < n) (sym (rref_length bit ps us r.3)) (le_of_suc-le-suc l))).1

-- ---- the reduced rows

module _ (m : ℕ) (M : List ℕ) where
  none_before : {A : Type 0} (has : ℕ → A → Bool) (ds : List A) → Below has 0 ds
  none_before has ds = λ k l. absurd (not-suc-le-zero l)

  pub reduced_length : length (rows (reduced m M)) ≡ length M
  unfolding reduced
  reduced_length = length_columns 0 ◌⊕◌ bit m 0 (unreduced M)

  pub up_length : length (reduced m M).up ≤ length M
  up_length = omega (arith, length-append (reduced m M).up (reduced m M).down, reduced_length)

  -- the rows below have none of the columns
  pub reduced_below : Below bit m (reduced m M).down
  unfolding reduced
  reduced_below = λ k l. below_columns 𝕎 bit bit_sum m 0 (unreduced M) (none_before bit M) k (omega arith)

  above : Above bit (0 + m) (reduced m M)
  unfolding reduced
  above = above_columns 𝕎 bit bit_sum m 0 (unreduced M) (none_before bit M) (tt, tt)

  -- the rows above are an echelon list with the pivots, and these are among the columns
  pub reduced_rref : Rref bit (reduced m M).pivots (reduced m M).up
  reduced_rref = above.0

  pub pivots_lt : All (λ p. p < m) (reduced m M).pivots
  pivots_lt = All-map (λ p l. omega arith) (reduced m M).pivots above.1

  pub pivots_length : length (reduced m M).pivots ≡ length (reduced m M).up
  pivots_length = rref_length bit (reduced m M).pivots (reduced m M).up reduced_rref

  pub reduced_indep : Indep 𝕎 (reduced m M).up
  reduced_indep = rref_indep 𝕎 bit bit_sum (reduced m M).pivots (reduced m M).up reduced_rref

  -- every row of the matrix is a sum of rows at the end
  keeps : All (InSpan 𝕎 (rows (reduced m M))) M
  unfolding reduced
  keeps = keeps_columns 𝕎 bit m 0 (unreduced M)

  -- and every row at the end a sum of rows of the matrix
  pub reduced_in : All (InSpan 𝕎 M) (rows (reduced m M))
  unfolding reduced
  reduced_in =
      closed_columns 𝕎 bit (InSpan 𝕎 M) (λ x y b k l. span_add 𝕎 M y (scale 𝕎 b x) l (span_scale 𝕎 M b x k)) m 0 (unreduced M)
      (span_members 𝕎 M)

  pub basis_in : All (InSpan 𝕎 M) (reduced m M).up
  basis_in = All-left (InSpan 𝕎 M) (reduced m M).up (reduced m M).down reduced_in

  module _ (small : All (λ v. v < 2 ^ m) M) where
    pub reduced_lt : All (λ v. v < 2 ^ m) (rows (reduced m M))
    reduced_lt = All-map (λ x h. span_lt m M small x h) (rows (reduced m M)) reduced_in

    -- the rows below are zero
    pub reduced_zero : All (λ v. v ≡ 0) (reduced m M).down
    reduced_zero =
        All-map₂ (λ v l z. same_bits m v 0 l (pow_pos m) (λ k h. z k h ∙ sym (bit_of_zero k))) (reduced m M).down
        (All-right (λ v. v < 2 ^ m) (reduced m M).up (reduced m M).down reduced_lt) (All-each (λ k v. bit k v ≡ false) m (reduced m M).down reduced_below)

    -- every row of the matrix is a sum of rows above
    pub reduced_out : All (InSpan 𝕎 (reduced m M).up) M
    reduced_out = All-map (λ y h. span_trans 𝕎 (rows (reduced m M)) (reduced m M).up y each h) M keeps
      where
        each : All (InSpan 𝕎 (reduced m M).up) (rows (reduced m M))
        each =
            All-append (InSpan 𝕎 (reduced m M).up) (reduced m M).up (reduced m M).down (span_members 𝕎 (reduced m M).up)
            (All-map (λ v e. subst (InSpan 𝕎 (reduced m M).up) (sym e) (span_zero 𝕎 (reduced m M).up)) (reduced m M).down reduced_zero)

    pub up_width : length (reduced m M).up ≤ m
    up_width =
        let l = steinitz 𝕎 (units m) (reduced m M).up reduced_indep
        (All-map (λ v h. units_span m v h) (reduced m M).up (All-left (λ v. v < 2 ^ m) (reduced m M).up (reduced m M).down reduced_lt)) in
        omega (arith, units_length m)

    -- independent rows are as many as their basis
    pub indep_length : Indep 𝕎 M → length (reduced m M).up ≡ length M
    indep_length i =
        let l = steinitz 𝕎 M (reduced m M).up reduced_indep basis_in in
        let k = steinitz 𝕎 (reduced m M).up M i reduced_out in
        omega arith

-- rows with one span have one reduced basis
pub reduced_unique : (m : ℕ) (M N : List ℕ) → All (λ v. v < 2 ^ m) M → All (λ v. v < 2 ^ m) N → All (InSpan 𝕎 N) M → All (InSpan 𝕎 M) N
    → (reduced m M).up ≡ (reduced m N).up
reduced_unique m M N a b h k =
    (unique 𝕎 bit bit_sum (reduced m M).pivots (reduced m N).pivots (reduced m M).up (reduced m N).up (reduced_rref m M) (reduced_rref m N)
    (All-map (λ x l. span_trans 𝕎 N (reduced m N).up x (reduced_out m N b) (span_trans 𝕎 M N x h l)) (reduced m M).up (basis_in m M))
    (All-map (λ x l. span_trans 𝕎 M (reduced m M).up x (reduced_out m M a) (span_trans 𝕎 N M x k l)) (reduced m N).up (basis_in m N))).1
