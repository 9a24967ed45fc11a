-- The fixed space: what it lists is left in place, all that is left in place are sums of it, it is reduced, it has 2n - r rows, and no other list has all that.
-- Assumes nothing.
use mathlib.Core.Path.{◌≡◌, sym, ap, ◌∙◌, subst}
use mathlib.Core.List.{List}
use Prim.Native.Nat.{ℕ, ◌+◌, ◌^◌, ◌<◌}
use native.Mathlib.Omega.{arith}
use lib.ListN.{length}
use Rattle.binar.specs.Bits.{◌⊕◌}
use Rattle.binar.proofs.Sums.{sum_self, sum_zero}
use Rattle.blocks.specs.Matrices.{times, All}
use Rattle.blocks.proofs.All.{All-map}
use Rattle.blocks.proofs.Products.{times_sum}
use Rattle.linear.specs.Span.{InSpan}
use Rattle.linear.proofs.Exchange.{span_trans}
use Rattle.linear.proofs.Instances.{𝕎}
use Rattle.linear.proofs.Maps.{span_kernel}
use Rattle.linear.proofs.Rows.{times_in, drawn, span_lt}
use Rattle.symplectic.specs.Turns.{identity_plus}
use Rattle.symplectic.proofs.Layers.{added_is, image_is, plus_times}
use Rattle.reduction.specs.Columns.{rank}
use Rattle.reduction.specs.Pivots.{ReducedRows}
use Rattle.reduction.specs.inner.Plain.{reduced}
use Rattle.reduction.proofs.Reduced.{reduced_rref, basis_in, reduced_out, indep_length}
use Rattle.reduction.proofs.Transform.{basis_reduced}
use Rattle.reduction.proofs.Pivots.{rref_rows, reduced_only}
use Rattle.residue.proofs.Parts.{plus_length}
use Rattle.residue.proofs.Core.{plus_lt}
use Rattle.fixed_space.specs.FixedSpace.{kernel, reduced_basis, fixed_space_lem}
use Rattle.fixed_space.specs.Promises.{Fixed, Spanning}
use Rattle.fixed_space.proofs.Kernels.{kernel_lt, kernel_length, kernel_indep, kernel_zero, kernel_whole}

-- a basis is that of the plain reduction
basis_plain : (m : ℕ) (M : List ℕ) → reduced_basis m M ≡ (reduced m M).up
unfolding reduced_basis
basis_plain m M = basis_reduced m M

module _ (n : ℕ) (F : List ℕ) (size : length F ≡ n + n) (bounded : All (λ f. f < 2 ^ (n + n)) F) where
  abbrev plus : List ℕ
  plus = identity_plus n F

  abbrev K : List ℕ
  K = kernel (n + n) (identity_plus n F)

  space_is : fixed_space_lem n F ≡ (reduced (n + n) K).up
  unfolding fixed_space_lem
  space_is = basis_plain (n + n) K

  K-lt : All (λ v. v < 2 ^ (n + n)) K
  K-lt = subst (λ k. All (λ v. v < 2 ^ k) K) (plus_length n F size) (kernel_lt (n + n) plus)

  -- vF = v just where I + F makes v zero
  fixed_of_zero : (v : ℕ) → v < 2 ^ (n + n) → times v (identity_plus n F) ≡ 0 → times v F ≡ v
  fixed_of_zero v l z = sym (image_is n F v l) ∙ ap (λ t. v ⊕ t) (sym (plus_times n F size v) ∙ z) ∙ sum_zero v

  zero_of_fixed : (v : ℕ) → Fixed n F v → times v (identity_plus n F) ≡ 0
  zero_of_fixed v (e, l) = plus_times n F size v ∙ added_is n F v l ∙ ap (λ t. v ⊕ t) e ∙ sum_self v

  -- a sum of the kernel is left in place
  fixed_of_span : (v : ℕ) → InSpan 𝕎 K v → Fixed n F v
  fixed_of_span v h =
      let l = span_lt (n + n) K K-lt v h in
      (fixed_of_zero v l (span_kernel 𝕎 𝕎 (λ u. times u plus) (times_sum plus) K (kernel_zero (n + n) plus (plus_lt n F size bounded)) v h), l)

  pub fixed_rows : All (Fixed n F) (fixed_space_lem n F)
  fixed_rows = subst (All (Fixed n F)) (sym space_is) (All-map (λ v h. fixed_of_span v h) (reduced (n + n) K).up (basis_in (n + n) K))

  pub fixed_spanning : Spanning n F (fixed_space_lem n F)
  fixed_spanning v f =
      let k = kernel_whole (n + n) plus (plus_lt n F size bounded) v (subst (λ m. v < 2 ^ m) (sym (plus_length n F size)) f.1) (zero_of_fixed v f) in
      let d = drawn (fixed_space_lem n F) v (subst (λ B. InSpan 𝕎 B v) (sym space_is) (span_trans 𝕎 K (reduced (n + n) K).up v (reduced_out (n + n) K K-lt) k)) in
      (d.0, d.2)

  pub fixed_reduced : ReducedRows (fixed_space_lem n F)
  fixed_reduced = subst ReducedRows (sym space_is) (rref_rows (reduced (n + n) K).pivots (reduced (n + n) K).up (reduced_rref (n + n) K))

  pub fixed_count : length (fixed_space_lem n F) + rank (n + n) (identity_plus n F) ≡ n + n
  fixed_count =
      omega (arith, ap length space_is, indep_length (n + n) K K-lt (kernel_indep (n + n) plus), kernel_length (n + n) plus, plus_length n F size)

  pub fixed_lt : All (λ v. v < 2 ^ (n + n)) (fixed_space_lem n F)
  fixed_lt = All-map (λ v f. f.1) (fixed_space_lem n F) fixed_rows

  -- whatever list has the first three, it is this one
  pub fixed_only : (vs : List ℕ) → All (Fixed n F) vs → Spanning n F vs → ReducedRows vs → vs ≡ fixed_space_lem n F
  fixed_only vs a s r = reduced_only vs (fixed_space_lem n F) r fixed_reduced (in_span (fixed_space_lem n F) vs fixed_spanning a) (in_span vs (fixed_space_lem n F) s fixed_rows)
    where
      in_span : (us ws : List ℕ) → Spanning n F us → All (Fixed n F) ws → All (InSpan 𝕎 us) ws
      in_span us ws s a = All-map (λ w f. subst (InSpan 𝕎 us) (s w f).1 (times_in (s w f).0 us)) ws a
