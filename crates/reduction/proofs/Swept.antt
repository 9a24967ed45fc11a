-- A column cleared row by row, where the rows and those of the transform stand in two lists.
-- Assumes nothing.
use mathlib.Core.Path.{◌≡◌, refl, sym, ap, ap₂, ◌∙◌}
use mathlib.Core.Bool.{Bool, true, false}
use mathlib.Core.List.{List, ◌++◌, zip}
use Prim.Native.Nat.{ℕ, ◌+◌, ◌≤◌, ◌<◌}
use native.Mathlib.Nat.{le_refl}
use native.Mathlib.Omega.{arith}
use lib.ListN.{length, get_or, set, take, drop, length-map}
use Rattle.binar.specs.Bits.{select, bit, ◌⊕◌}
use Rattle.blocks.proofs.Overs.{over_more, over_left, over_whole}
use Rattle.blocks.proofs.Values.{map_get}
use Rattle.symplectic.specs.Picks.{add_both}
use Rattle.reduction.specs.Columns.{clear}
use Rattle.reduction.specs.inner.Sweeps.{cleared, swept}
use Rattle.reduction.proofs.TwoLists.{zip_length, zip_at, zip_set}

-- ---- a column cleared

abbrev zeros : ℕ × ℕ
zeros = (0, 0)

both : (b : Bool) (v w : ℕ) → (select 0 b v, select 0 b w) ≡ select zeros b (v, w)
both true v w = refl
both false v w = refl

module _ (c v w i : ℕ) (R₀ T₀ : List ℕ) (even : length R₀ ≡ length T₀) where
  abbrev all : List (ℕ × ℕ)
  all = zip R₀ T₀

  long : length (cleared c (v, w) all) ≡ length R₀
  long = length-map all (clear zeros add_both (λ a. bit c a.0) (v, w)) ∙ zip_length R₀ T₀ even

  -- one row more, in both lists
  module _ (R T : List ℕ) (sizeR : length R ≡ length R₀) (sizeT : length T ≡ length T₀) (h : i < length R₀)
      (so_far : zip R T ≡ take i (cleared c (v, w) all) ++ drop i all) where
    inside : i < length all
    inside = omega (arith, zip_length R₀ T₀ even)

    within : i < length (cleared c (v, w) all)
    within = omega (arith, long)

    -- row i is as it was
    row-at : (get_or R i 0, get_or T i 0) ≡ get_or all i zeros
    row-at = sym (zip_at R T 0 0 (sizeR ∙ even ∙ sym sizeT) i) ∙ ap (λ l. get_or l i zeros) so_far ∙ over_left zeros (cleared c (v, w) all) all (take i (cleared c (v, w) all) ++ drop i all) i i refl (omega (arith, within)) (le_refl i)

    pub cleared_next : (has : Bool) (a b : ℕ) → has ≡ bit c (get_or R i 0) → a ≡ get_or R i 0 ⊕ select 0 has v → b ≡ get_or T i 0 ⊕ select 0 has w
        → zip (set R i a) (set T i b) ≡ take (i + 1) (cleared c (v, w) all) ++ drop (i + 1) all
    cleared_next has a b test ea eb =
        zip_set R T i a b ∙ ap₂ (λ l x. set l i x) so_far pair ∙ over_more zeros (cleared c (v, w) all) all i within inside
      where
        pair : (a, b) ≡ get_or (cleared c (v, w) all) i zeros
        pair =
            ap₂ (λ x y. (x, y)) ea eb ∙ ap (add_both (get_or R i 0, get_or T i 0)) (both has v w)
            ∙ ap (λ t. add_both (get_or R i 0, get_or T i 0) (select zeros t (v, w))) test
            ∙ ap (clear zeros add_both (λ a. bit c a.0) (v, w)) row-at
            ∙ sym (map_get (clear zeros add_both (λ a. bit c a.0) (v, w)) all i zeros zeros inside)

  -- all rows
  pub cleared_end : length R₀ ≤ i → take i (cleared c (v, w) all) ++ drop i all ≡ cleared c (v, w) all
  cleared_end h = over_whole zeros (cleared c (v, w) all) all i (omega (arith, long)) (omega (arith, zip_length R₀ T₀ even))

-- row p put back
pub swept_is : (c p v w : ℕ) (R₀ T₀ R T : List ℕ) → length R₀ ≡ length T₀ → v ≡ get_or R₀ p 0 → w ≡ get_or T₀ p 0 → zip R T ≡ cleared c (v, w) (zip R₀ T₀)
    → zip (set R p v) (set T p w) ≡ swept c p (zip R₀ T₀)
swept_is c p v w R₀ T₀ R T even ev ew is =
    let all = zip R₀ T₀ in
    let row : (v, w) ≡ get_or all p zeros = ap₂ (λ x y. (x, y)) ev ew ∙ sym (zip_at R₀ T₀ 0 0 even p) in
    zip_set R T p v w ∙ ap (λ l. set l p (v, w)) is ∙ ap (λ x. set (cleared c x all) p x) row
