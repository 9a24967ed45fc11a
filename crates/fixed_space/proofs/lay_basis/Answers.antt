-- `lay_basis` lays the rows up to the rank, by `basis_end`.
use mathlib.Core.Path.{ap, ◌∙◌}
use mathlib.Core.List.{List}
use Prim.Native.Nat.{ℕ, ◌≤◌, min}
use lib.ListN.{length, replicate, length-replicate}
use Rattle.binar.specs.Rows.{width}
use Rattle.blocks.specs.Words.{rows_in_lem, laid}
use Rattle.blocks.proofs.Lent.{lent_front}
use Rattle.symplectic.specs.Sizes.{most_rows}
use Rattle.fixed_space.proofs.Parts.{basis_count, basis_end}
use native.Mathlib.Omega.{arith}
use Rattle.fixed_space.proofs.lay_basis.Goals as goal

pub returns : goal.returns
returns c =
    let s = c.args in
    let M = rows_in_lem s.rows.now in
    let T = rows_in_lem s.transform.now in
    let r = c.row_reduce_with_transform-r in
    let to = c.start-to in
    let pivots : List ℕ = replicate most_rows 0 in
    let fits : length M ≤ min width (min (length pivots) (length T)) = omega (arith, c.requires.0, c.requires.1, length-replicate {A = ℕ} most_rows 0) in
    let front = lent_front r.result to.result r.new.a to.ensures ∙ basis_end s.m r.result M T pivots fits r.ensures.ranked _ r.ensures.reduced in record {
      counted = basis_count s.m r.result M T pivots fits r.ensures.ranked;
      laid = c.lay.ensures ∙ ap (λ (l : List ℕ). laid s.n l s.out.now) front;
    }
