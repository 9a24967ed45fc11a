-- One turn of a loop, and its end: the pivots, the reduction's two lists.
-- Assumes nothing.
use mathlib.Core.Path.{◌≡◌, sym, ap, ◌∙◌, subst}
use mathlib.Core.List.{List, map, zip}
use Prim.Native.Nat.{ℕ, ◌+◌, ◌-◌, ◌≤◌}
use native.Mathlib.Omega.{arith}
use lib.ListN.{length, take, drop, take-append-drop}
use lib.Seq.{take_all, take-length, length-take-le, drop-drop}
use Rattle.binar.specs.Bits.{bit}
use Rattle.blocks.specs.Matrices.{units}
use Rattle.symplectic.specs.Picks.{add_both}
use Rattle.reduction.specs.Columns.{Echelon, unreduced, rows, columns, row_reduce_with_transform_lem, rank}
use Rattle.reduction.specs.inner.Sweeps.{halves, ReducedIn}
use Rattle.reduction.proofs.Transform.{up_rank}
use Rattle.reduction.proofs.TwoLists.{zip_length, above_left, above_right}

-- ---- the numbers behind the pivots

-- as they were from p on, then as they were then from r on
pub behind_kept : (p r : ℕ) (xs ys zs : List ℕ) → p ≤ r → drop p ys ≡ drop p xs → drop r zs ≡ drop r ys → drop r zs ≡ drop r xs
behind_kept p r xs ys zs h e f =
    let all : p + (r - p) ≡ r = omega arith in
    let at : (l : List ℕ) → drop r l ≡ drop (r - p) (drop p l) = λ l. sym (drop-drop (r - p) p l ∙ ap (λ (k : ℕ). drop k l) all) in
    f ∙ at ys ∙ ap (drop (r - p)) e ∙ sym (at xs)

-- ---- the reduction's two lists

module _ (m : ℕ) (M : List ℕ) where
  abbrev all : Echelon (ℕ × ℕ)
  all = row_reduce_with_transform_lem m M

  -- the unit rows are the start
  pub begun : (T : List ℕ) → T ≡ units (length M) → columns (0, 0) add_both (λ c a. bit c a.0) m 0 (unreduced (zip M T)) ≡ all
  unfolding row_reduce_with_transform_lem
  begun T e = ap (λ (l : List ℕ). columns (0, 0) add_both (λ c a. bit c a.0) m 0 (unreduced (zip M l))) e

  -- the end
  module _ (p : ℕ) (ps R T : List ℕ) (e : length R ≡ length T) (is : halves p ps (zip R T) ≡ all) where
    joined : rows all ≡ take (length R) (zip R T)
    joined = ap rows (sym is) ∙ take-append-drop p (zip R T) ∙ sym (take_all (length R) (zip R T) (omega (arith, zip_length R T e)))

    rows_end : R ≡ map (λ a. a.0) (rows all)
    rows_end = sym (ap (map (λ a. a.0)) joined ∙ above_left (length R) R T e ∙ take-length R)

    transform_end : T ≡ map (λ a. a.1) (rows all)
    transform_end = sym (ap (map (λ a. a.1)) joined ∙ above_right (length R) R T e ∙ ap (λ k. take k T) e ∙ take-length T)

    rank_end : p ≤ length R → p ≡ rank m M
    rank_end l =
        sym (ap (λ h. length h.up) (sym is) ∙ length-take-le p (zip R T) (subst (λ k. p ≤ k) (sym (zip_length R T e)) l)) ∙ up_rank m M

    -- all of it
    pub reduced_in : p ≤ length R → ReducedIn m M p R T ps
    reduced_in l = (rank_end l, rows_end, transform_end, ap (λ h. h.pivots) is)
