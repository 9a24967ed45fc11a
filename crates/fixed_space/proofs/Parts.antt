-- Words that a matrix was reduced in: where the kernel and the reduced basis stand; of I + F they make the fixed space.
-- Assumes nothing.
use mathlib.Core.Path.{◌≡◌, sym, ap, ap₂, ◌∙◌}
use mathlib.Core.List.{List, map}
use Prim.Native.Nat.{ℕ, ◌+◌, ◌≤◌, min}
use lib.ListN.{length, take, drop, length-map}
use Rattle.binar.specs.Rows.{width}
use Rattle.blocks.specs.Words.{over}
use Rattle.symplectic.specs.Turns.{identity_plus}
use Rattle.reduction.specs.Columns.{rows, row_reduce_with_transform_lem, rank, fitting}
use Rattle.reduction.specs.inner.Sweeps.{ReducedIn}
use Rattle.reduction.proofs.InPlace.{rank_whole, rows_whole}
use Rattle.reduction.proofs.Parts.{front, back}
use Rattle.reduction.proofs.Transform.{up_rank}
use Rattle.fixed_space.specs.FixedSpace.{kernel, reduced_basis, fixed_space_lem}

-- the kernel is the transform from the rank on
pub kernel_end : (m p : ℕ) (M R T ps : List ℕ) → ReducedIn m M p R T ps → drop p T ≡ kernel m M
unfolding kernel
kernel_end m p M R T ps done = ap (drop p) done.2 ∙ back m M (λ a. a.1) p done.0

-- the reduced basis is the rows up to the rank, where all fit
module _ (m p : ℕ) (M T ps : List ℕ) (fits : length M ≤ min width (min (length ps) (length T))) (ranked : p ≡ rank m (fitting M T ps)) where
  pub basis_count : p ≡ length (reduced_basis m M)
  unfolding reduced_basis
  basis_count =
      let h = row_reduce_with_transform_lem m M in
      rank_whole m M T ps fits p ranked ∙ sym (length-map h.up (λ a. a.0) ∙ up_rank m M)

  pub basis_end : (R : List ℕ) → R ≡ over (map (λ a. a.0) (rows (row_reduce_with_transform_lem m (fitting M T ps)))) M → take p R ≡ reduced_basis m M
  unfolding reduced_basis
  basis_end R reduced =
      ap (take p) (rows_whole m M T ps fits R reduced) ∙ front m M (λ a. a.0) p (rank_whole m M T ps fits p ranked)

-- the reduced basis of the kernel of I + F
pub fixed_is : (q m : ℕ) (F M K : List ℕ) → m ≡ q + q → M ≡ identity_plus q F → K ≡ kernel m M → reduced_basis m K ≡ fixed_space_lem q F
unfolding fixed_space_lem
fixed_is q m F M K e f g = ap₂ (λ (k : ℕ) (l : List ℕ). reduced_basis k l) e (g ∙ ap₂ (λ (k : ℕ) (l : List ℕ). kernel k l) e f)
