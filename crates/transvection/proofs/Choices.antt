-- The greedy list's next vector by indices: what stands at index i of I + F and beside its basis vector, and which vector is taken.
-- Assumes nothing.
use mathlib.Core.Path.{◌≡◌, sym, ap, ap₂, ◌∙◌, subst}
use mathlib.Core.Bool.{Bool, not}
use mathlib.Core.List.{List, map}
use mathlib.Core.Option.{none}
use Prim.Native.Nat.{ℕ, ◌+◌, ◌^◌, ◌≤◌, ◌<◌}
use lib.Dec.{eqb}
use lib.Pow.{pow-lt}
use lib.ListN.{length, get_or, drop, length-map, drop_of_length-le}
use Rattle.binar.specs.Bits.{◌⊻◌, ◌⊕◌}
use Rattle.binar.proofs.Sums.{sum_comm}
use Rattle.blocks.specs.Matrices.{times, units}
use Rattle.blocks.proofs.Products.{times_unit}
use Rattle.blocks.proofs.Units.{units_length, units_at}
use Rattle.blocks.proofs.Values.{map_get}
use Rattle.symplectic.specs.Turns.{pairing, identity_plus}
use Rattle.symplectic.specs.Picks.{or_if, add_both}
use Rattle.symplectic.proofs.Layers.{added, added_is, identity_plus_is}
use Rattle.transvection.specs.Greedy.{beside_basis, row_pairing, first_nonzero}
use Rattle.transvection.specs.inner.Searches.{row_at}
use Rattle.transvection.proofs.Taken.{beside, beside_basis_is}
use Rattle.symplectic.proofs.FirstPicks.{drop_open, uneven}

-- ---- the lowest nonzero row

pub first_nonzero_open : (l : List ℕ) (i v : ℕ) → i < length l → get_or l i 0 ≡ v
    → first_nonzero (drop i l) ≡ or_if (not (eqb v 0)) v (first_nonzero (drop (i + 1) l))
unfolding first_nonzero
first_nonzero_open l i v h e = ap first_nonzero (drop_open l i 0 h) ∙ ap (λ w. or_if (not (eqb w 0)) w (first_nonzero (drop (i + 1) l))) e

pub first_nonzero_end : (l : List ℕ) (i : ℕ) → length l ≤ i → first_nonzero (drop i l) ≡ none
unfolding first_nonzero
first_nonzero_end l i h = ap first_nonzero (drop_of_length-le l h)

-- ---- the rows of I + F

-- row i's pairing with basis vector j
abbrev pub meets : ℕ → List ℕ → ℕ → ℕ → Bool
meets n F i j = pairing n (row_at F i) (2 ^ j)

-- the pairing of row i with basis vector j differs from that of row j with basis vector i
abbrev pub differs : ℕ → List ℕ → ℕ → ℕ → Bool
differs n F i j = meets n F i j ⊻ meets n F j i

module _ (n : ℕ) (F : List ℕ) (size : length F ≡ n + n) where
  pub beside_basis_length : length (beside_basis n F) ≡ n + n
  beside_basis_length = ap length (beside_basis_is n F size) ∙ length-map (units (n + n)) (beside n F) ∙ units_length (n + n)

  pub identity_plus_length : length (identity_plus n F) ≡ n + n
  identity_plus_length = ap length (identity_plus_is n F size) ∙ length-map (units (n + n)) (added n F) ∙ units_length (n + n)

  unit_map : {B : Type 0} (f : ℕ → B) (i : ℕ) (e : B) → i < n + n → get_or (map f (units (n + n))) i e ≡ f (2 ^ i)
  unit_map f i e h = map_get f (units (n + n)) i 0 e (subst (λ m. i < m) (sym (units_length (n + n))) h) ∙ ap f (units_at i (n + n) h)

  added_at : (i : ℕ) → i < n + n → added n F (2 ^ i) ≡ row_at F i
  added_at i h = added_is n F (2 ^ i) (pow-lt h) ∙ sum_comm (2 ^ i) (times (2 ^ i) F) ∙ ap (λ t. t ⊕ 2 ^ i) (times_unit i F)

  pub identity_plus_at : (i d : ℕ) → i < n + n → get_or (identity_plus n F) i d ≡ row_at F i
  identity_plus_at i d h = ap (λ l. get_or l i d) (identity_plus_is n F size) ∙ unit_map (added n F) i d h ∙ added_at i h

  pub beside_basis_at : (i : ℕ) (d : ℕ × ℕ) → i < n + n → get_or (beside_basis n F) i d ≡ (2 ^ i, row_at F i)
  beside_basis_at i d h = ap (λ l. get_or l i d) (beside_basis_is n F size) ∙ unit_map (beside n F) i d h ∙ ap (λ t. (2 ^ i, t)) (added_at i h)

  pub row_pairing_at : (i j : ℕ) (d : ℕ × ℕ) → i < n + n → j < n + n → row_pairing n (get_or (beside_basis n F) i d) (get_or (beside_basis n F) j d) ≡ meets n F i j
  row_pairing_at i j d h k = ap₂ (row_pairing n) (beside_basis_at i d h) (beside_basis_at j d k)

  -- ---- which vector is taken

  abbrev pairs : List (ℕ × ℕ)
  pairs = beside_basis n F

  abbrev at : ℕ → ℕ × ℕ
  at i = get_or pairs i (0, 0)

  pub in_pairs : (i : ℕ) → i < n + n → i < length (beside_basis n F)
  in_pairs i h = subst (λ m. i < m) (sym beside_basis_length) h

  pub own : (i : ℕ) (b : Bool) → i < n + n → meets n F i i ≡ b → row_pairing n (at i) (at i) ≡ b
  own i b h e = row_pairing_at i i (0, 0) h h ∙ e

  pub both : (i j : ℕ) (b : Bool) → i < n + n → j < n + n → differs n F i j ≡ b → uneven add_both (row_pairing n) (at i) (at j) ≡ b
  both i j b h k e = ap₂ ◌⊻◌ (row_pairing_at i j (0, 0) h k) (row_pairing_at j i (0, 0) k h) ∙ e
