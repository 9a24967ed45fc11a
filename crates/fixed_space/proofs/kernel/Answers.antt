-- `kernel` takes the rows of the transform from the rank on, by `kernel_end`.
use mathlib.Core.List.{List}
use Prim.Native.Nat.{ℕ, ◌≤◌, min}
use lib.ListN.{length, replicate, length-replicate}
use Rattle.binar.specs.Rows.{width}
use Rattle.blocks.specs.Words.{rows_in_lem}
use Rattle.symplectic.specs.Sizes.{most_rows}
use Rattle.reduction.proofs.InPlace.{reduced_whole}
use Rattle.fixed_space.proofs.Parts.{kernel_end}
use native.Mathlib.Omega.{arith}
use Rattle.fixed_space.proofs.kernel.Goals as goal

pub returns : goal.returns
returns c =
    let s = c.args in
    let M = rows_in_lem s.rows.now in
    let T = rows_in_lem s.transform.now in
    let r = c.row_reduce_with_transform in
    let pivots : List ℕ = replicate most_rows 0 in
    let fits : length M ≤ min width (min (length pivots) (length T)) = omega (arith, c.requires.0, c.requires.1, length-replicate {A = ℕ} most_rows 0) in
    kernel_end s.m r.result M _ _ _
    (reduced_whole s.m M T pivots fits r.result _ _ c.requires.0 r.ensures.ranked r.ensures.reduced r.ensures.transformed)
