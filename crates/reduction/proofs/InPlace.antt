-- Rows reduced in place: as many as fit, put back over the others, and their pivots; all of them, where all fit.
-- Assumes nothing.
use mathlib.Core.Path.{◌≡◌, refl, sym, ap, ap₂, ◌∙◌}
use mathlib.Core.List.{List, ◌++◌, map}
use Prim.Native.Nat.{ℕ, ◌≤◌, min}
use native.Mathlib.Omega.{arith}
use lib.ListN.{length, take, drop, length-map, length-take, take-append-drop}
use lib.Seq.{take_all}
use Rattle.binar.specs.Rows.{width}
use Rattle.blocks.specs.Words.{over}
use Rattle.blocks.proofs.Overs.{over_same, over_front, over_end}
use Rattle.reduction.specs.Columns.{rows, row_reduce_with_transform_lem, rank, fitting}
use Rattle.reduction.specs.inner.Sweeps.{ReducedIn}
use Rattle.reduction.proofs.Pivots.{Pivoted, pivoted}
use Rattle.reduction.proofs.Transform.{transform_length, rank_length}

-- the rows of a reduction
abbrev all : ℕ → List ℕ → List (ℕ × ℕ)
all m M = rows (row_reduce_with_transform_lem m M)

all_length : (m : ℕ) (M : List ℕ) (f : ℕ × ℕ → ℕ) → length (map f (all m M)) ≡ length M
all_length m M f = length-map (all m M) f ∙ transform_length m M

-- ---- as many as fit

-- the first k of them
pub fitting_front : (A T ps : List ℕ) (k : ℕ) → k ≡ min width (min (length ps) (min (length A) (length T))) → take k A ≡ fitting A T ps
unfolding fitting
fitting_front A T ps k e = ap (λ (n : ℕ). take n A) e

fitting_length : (A T ps : List ℕ) → length (fitting A T ps) ≡ min width (min (length ps) (min (length A) (length T)))
unfolding fitting
fitting_length A T ps = length-take (min width (min (length ps) (min (length A) (length T)))) A ∙ omega arith

module _ (m : ℕ) (A T ps : List ℕ) (r : ℕ) (ranked : r ≡ rank m (fitting A T ps)) where
  abbrev M : List ℕ
  M = fitting A T ps

  -- the pivots stand over the numbers that were lent, of which those behind them are kept
  pub pivots_over : (qs : List ℕ) → take r qs ≡ (row_reduce_with_transform_lem m M).pivots → drop r qs ≡ drop r ps → qs ≡ over (row_reduce_with_transform_lem m M).pivots ps
  unfolding rank
  pivots_over qs front behind =
      let found = (row_reduce_with_transform_lem m M).pivots in
      sym (take-append-drop r qs) ∙ ap₂ (λ (x y : List ℕ). x ++ y) (front ∙ sym (take_all r found (omega (arith, ranked)))) behind
      ∙ over_end found ps r (omega (arith, ranked, rank_length m M, fitting_length A T ps))

  -- and what is promised of them holds of the rows that were reduced
  pub fitting_pivoted : (qs R : List ℕ) → qs ≡ (row_reduce_with_transform_lem m M).pivots → R ≡ over (map (λ x. x.0) (all m M)) A → Pivoted m r qs (take (length M) R)
  fitting_pivoted qs R front reduced =
      let size = all_length m M (λ x. x.0) in
      pivoted m M r qs (take (length M) R) ranked front
      (ap₂ (λ (n : ℕ) (l : List ℕ). take n l) (sym size) reduced ∙ over_front (map (λ x. x.0) (all m M)) A (omega (arith, size, fitting_length A T ps)))

-- ---- all of them, where all fit

module _ (m : ℕ) (M T₀ ps : List ℕ) (fits : length M ≤ min width (min (length ps) (length T₀))) where
  whole : fitting M T₀ ps ≡ M
  unfolding fitting
  whole = take_all (min width (min (length ps) (min (length M) (length T₀)))) M (omega arith)

  pub rank_whole : (p : ℕ) → p ≡ rank m (fitting M T₀ ps) → p ≡ rank m M
  rank_whole p ranked = ranked ∙ ap (rank m) whole

  -- put back over as many rows
  back : (f : ℕ × ℕ → ℕ) (R out : List ℕ) → length M ≡ length out → R ≡ over (map f (all m (fitting M T₀ ps))) out → R ≡ map f (all m M)
  back f R out e is =
      is ∙ ap (λ (l : List ℕ). over (map f (all m l)) out) whole ∙ over_same (map f (all m M)) out (all_length m M f ∙ e)

  pub rows_whole : (R : List ℕ) → R ≡ over (map (λ x. x.0) (all m (fitting M T₀ ps))) M → R ≡ map (λ x. x.0) (all m M)
  rows_whole R is = back (λ x. x.0) R M refl is

  pub reduced_whole : (p : ℕ) (R T : List ℕ) → length M ≡ length T₀ → p ≡ rank m (fitting M T₀ ps) → R ≡ over (map (λ x. x.0) (all m (fitting M T₀ ps))) M
      → T ≡ over (map (λ x. x.1) (all m (fitting M T₀ ps))) T₀ → ReducedIn m M p R T (row_reduce_with_transform_lem m M).pivots
  reduced_whole p R T even ranked reduced transformed =
      (rank_whole p ranked, rows_whole R reduced, back (λ x. x.1) T T₀ even transformed, refl)
