-- The reduced basis of a space, from rows that are reduced in place.
-- Assumes nothing.
use mathlib.Core.Path.{◌≡◌, sym, ap, ap₂, ◌∙◌}
use mathlib.Core.List.{List, map}
use Prim.Native.Nat.{ℕ, ◌≤◌}
use native.Mathlib.Omega.{arith}
use lib.ListN.{length, take}
use lib.Seq.{length-take-le}
use Rattle.binar.specs.Rows.{width}
use Rattle.blocks.specs.Words.{over}
use Rattle.blocks.proofs.Overs.{over_front}
use Rattle.reduction.specs.Columns.{rows, row_reduce_with_transform_lem, fitting}
use Rattle.reduction.proofs.InPlace.{fitting_front}
use Rattle.triangular.specs.Memory.{entry_basis}
use Rattle.triangular.proofs.Entries.{reduced_is, reduced_size}

-- the first d of them, where there is room for d pivots
pub reduced_front : (d : ℕ) (A T ps R : List ℕ) → d ≤ width → length ps ≡ d → d ≤ length A → d ≤ length T
    → R ≡ over (map (λ x. x.0) (rows (row_reduce_with_transform_lem width (fitting A T ps)))) A → take d R ≡ entry_basis width (take d A)
reduced_front d A T ps R wide size h k is =
    let first : take d A ≡ fitting A T ps = fitting_front A T ps d (omega arith) in
    let whole : R ≡ over (entry_basis width (take d A)) A = is ∙ ap (λ (M : List ℕ). over (map (λ x. x.0) (rows (row_reduce_with_transform_lem width M))) A) (sym first) ∙ ap (λ (l : List ℕ). over l A) (sym (reduced_is width (take d A))) in
    let long : length (entry_basis width (take d A)) ≡ d = reduced_size width (take d A) ∙ length-take-le d A h in
    ap₂ (λ (n : ℕ) (l : List ℕ). take n l) (sym long) whole ∙ over_front (entry_basis width (take d A)) A (omega arith)
