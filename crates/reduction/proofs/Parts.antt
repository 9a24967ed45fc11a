-- The front and the back of a reduction, and words that a matrix was reduced in: how many rows they have.
-- Assumes nothing.
use mathlib.Core.Path.{◌≡◌, sym, ap, ◌∙◌}
use mathlib.Core.List.{List, map, map-append}
use Prim.Native.Nat.{ℕ, ◌≤◌}
use native.Mathlib.Omega.{arith}
use lib.ListN.{length, take, drop, length-map}
use lib.Seq.{take_at, drop_at}
use Rattle.reduction.specs.Columns.{Echelon, rows, row_reduce_with_transform_lem, rank}
use Rattle.reduction.specs.inner.Sweeps.{ReducedIn}
use Rattle.reduction.proofs.Transform.{up_rank, rank_length, transform_length}

-- ---- the front and the back of a reduction

module _ (m : ℕ) (M : List ℕ) where
  abbrev all : Echelon (ℕ × ℕ)
  all = row_reduce_with_transform_lem m M

  pub front : (f : ℕ × ℕ → ℕ) (p : ℕ) → p ≡ rank m M → take p (map f (rows all)) ≡ map f all.up
  front f p e =
      ap (take p) (map-append f all.up all.down) ∙ take_at (map f all.up) (map f all.down) p (length-map all.up f ∙ up_rank m M ∙ sym e)

  pub back : (f : ℕ × ℕ → ℕ) (p : ℕ) → p ≡ rank m M → drop p (map f (rows all)) ≡ map f all.down
  back f p e =
      ap (drop p) (map-append f all.up all.down) ∙ drop_at (map f all.up) (map f all.down) p (length-map all.up f ∙ up_rank m M ∙ sym e)

-- ---- words that a matrix was reduced in

module _ (m p : ℕ) (M R T ps : List ℕ) (done : ReducedIn m M p R T ps) where
  pub rank_in : p ≤ length M
  rank_in = omega (arith, done.0, rank_length m M)

  pub rank_in_rows : p ≤ length R
  rank_in_rows =
      let all = rows (row_reduce_with_transform_lem m M) in
      omega (arith, rank_in, ap length done.1, length-map all (λ a. a.0), transform_length m M)

  pub rank_in_transform : p ≤ length T
  rank_in_transform =
      let all = rows (row_reduce_with_transform_lem m M) in
      omega (arith, rank_in, ap length done.2, length-map all (λ a. a.1), transform_length m M)
