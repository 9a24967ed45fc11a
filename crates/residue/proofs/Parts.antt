-- The rows of I + F one by one, and words that the residue was reduced in: the basis, the core.
-- Assumes nothing.
use mathlib.Core.Path.{◌≡◌, sym, ap, ap₂, ◌∙◌}
use mathlib.Core.List.{List, ◌++◌, map}
use Prim.Native.Nat.{ℕ, ◌+◌, ◌^◌, ◌≤◌, ◌<◌}
use native.Mathlib.Omega.{arith}
use lib.ListN.{length, take, drop, get_or, length-map, length-append, length-drop, length-take}
use Rattle.binar.specs.Bits.{◌⊕◌}
use Rattle.binar.specs.Rows.{width}
use Rattle.binar.proofs.Sums.{sum_comm}
use Rattle.blocks.specs.Matrices.{times, units}
use Rattle.blocks.specs.Words.{over}
use Rattle.blocks.proofs.All.{All-at}
use Rattle.blocks.proofs.Products.{times_unit}
use Rattle.blocks.proofs.Units.{units_length, units_lt, units_at}
use Rattle.blocks.proofs.Values.{map_get}
use Rattle.symplectic.specs.Sizes.{max_qubits}
use Rattle.symplectic.specs.Turns.{identity_plus}
use Rattle.symplectic.proofs.Layers.{added, added_is, identity_plus_is}
use Rattle.reduction.specs.Columns.{row_reduce_with_transform_lem, rank}
use Rattle.reduction.specs.inner.Sweeps.{ReducedIn}
use Rattle.reduction.proofs.Parts.{front, rank_in}
use Rattle.residue.specs.Residue.{residue, reduction, basis, transform, times_transposed, core}
use Rattle.residue.proofs.Core.{residue_length, basis_rank}

-- ---- the rows of I + F

module _ (n : ℕ) (F : List ℕ) (size : length F ≡ n + n) where
  pub plus_length : length (identity_plus n F) ≡ n + n
  plus_length = ap length (identity_plus_is n F size) ∙ length-map (units (n + n)) (added n F) ∙ units_length (n + n)

  pub plus_at : (i : ℕ) → i < n + n → get_or (identity_plus n F) i 0 ≡ get_or F i 0 ⊕ 2 ^ i
  plus_at i h =
      let U = units (n + n) in
      let l : i < length U = omega (arith, units_length (n + n)) in
      ap (λ M. get_or M i 0) (identity_plus_is n F size) ∙ map_get (added n F) U i 0 0 l
      ∙ added_is n F (get_or U i 0) (All-at (λ u. u < 2 ^ (n + n)) U (units_lt (n + n)) i 0 l)
      ∙ ap (λ u. u ⊕ times u F) (units_at i (n + n) h) ∙ ap (λ t. 2 ^ i ⊕ t) (times_unit i F) ∙ sum_comm (2 ^ i) (get_or F i 0)

  -- its rows from row k on, then the first k: row i is row j, where that is so of every list of as many rows
  pub plus_from_length : (k : ℕ) → length (drop k (identity_plus n F) ++ take k (identity_plus n F)) ≡ n + n
  plus_from_length k =
      let l = identity_plus n F in omega (arith, length-append (drop k l) (take k l), length-drop k l, length-take k l, plus_length)

  pub plus_from_at : (k i j : ℕ) → j < n + n → ((l : List ℕ) → length l ≡ n + n → get_or (drop k l ++ take k l) i 0 ≡ get_or l j 0)
      → get_or F j 0 ⊕ 2 ^ j ≡ get_or (drop k (identity_plus n F) ++ take k (identity_plus n F)) i 0
  plus_from_at k i j h g = sym (g (identity_plus n F) plus_length ∙ plus_at j h)

-- from the lower half on: the residue
pub residue_over : (n : ℕ) (F : List ℕ) (k : ℕ) (x l : List ℕ) → x ≡ over (drop k (identity_plus n F) ++ take k (identity_plus n F)) l → k ≡ n → x ≡ over (residue n F) l
unfolding residue
residue_over n F k x l is e =
    let P = identity_plus n F in is ∙ ap (λ (j : ℕ). over (drop j P ++ take j P) l) e

-- ---- words that the residue was reduced in: the basis and the core

module _ (n q p : ℕ) (F M R T ps : List ℕ) (size : length F ≡ q + q) (small : q ≤ max_qubits) (same : n ≡ q) (is : M ≡ residue q F)
    (done : ReducedIn (n + n) M p R T ps) where
  same-rows : row_reduce_with_transform_lem (n + n) M ≡ reduction q F
  unfolding reduction
  same-rows = ap₂ (λ k l. row_reduce_with_transform_lem (k + k) l) same is

  pub rank_end : p ≡ length (basis q F)
  rank_end = done.0 ∙ ap₂ (λ k l. rank (k + k) l) same is ∙ sym (basis_rank q F)

  pub basis_end : take p R ≡ basis q F
  unfolding basis
  basis_end = ap (take p) done.1 ∙ front (n + n) M (λ a. a.0) p done.0 ∙ ap (λ h. map (λ a. a.0) h.up) same-rows

  pub rank_wide : p ≤ width
  rank_wide = omega (arith, rank_in (n + n) p M R T ps done, ap length is, residue_length q F size)

  transform_end : take p T ≡ transform q F
  unfolding transform
  transform_end = ap (take p) done.2 ∙ front (n + n) M (λ a. a.1) p done.0 ∙ ap (λ h. map (λ a. a.1) h.up) same-rows

  pub core_end : times_transposed (take p R) (take p T) ≡ core q F
  unfolding core
  core_end = ap₂ times_transposed basis_end transform_end
