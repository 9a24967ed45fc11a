-- The members of a list but the first and one more, by their places; and a member cleared of two others, with its form row.
-- Assumes nothing.
use mathlib.Core.Path.{◌≡◌, sym, ap, ap₂, ◌∙◌}
use mathlib.Core.Bool.{Bool}
use mathlib.Core.List.{List}
use Prim.Native.Nat.{ℕ, suc, ◌+◌, ◌-◌, ◌≤◌, ◌<◌}
use native.Mathlib.Omega.{arith}
use lib.ListN.{length, get_or, drop, length-drop, length-map}
use lib.Seq.{get_or-drop}
use Rattle.binar.specs.Bits.{select, ◌⊕◌}
use Rattle.blocks.specs.Matrices.{times, matmul}
use Rattle.blocks.proofs.Products.{times_sum, row_times}
use Rattle.blocks.proofs.Values.{without_before, without_behind, without_length, map_get}
use Rattle.linear.proofs.Instances.{𝕎}
use Rattle.linear.proofs.Maps.{map_at}
use Rattle.residue.specs.Residue.{form}
use Rattle.family.specs.Family.{cleared_of_pair}
use Rattle.family.specs.inner.Parts.{others_of, pair_rest_lem}

-- ---- by their places

module _ (n j : ℕ) (B : List ℕ) where
  pub other_before : n + 1 < j → get_or (others_of j B) n 0 ≡ get_or B (n + 1) 0
  unfolding others_of
  other_before h =
      let e : 1 + n ≡ n + 1 = omega arith in
      without_before (j - 1) (drop 1 B) n 0 (omega arith) ∙ get_or-drop 1 B n 0 ∙ ap (λ k. get_or B k 0) e

  pub other_behind : 1 ≤ j → j ≤ n + 1 → get_or (others_of j B) n 0 ≡ get_or B (n + 1 + 1) 0
  unfolding others_of
  other_behind p h =
      let e : 1 + suc n ≡ n + 1 + 1 = omega arith in
      without_behind (j - 1) (drop 1 B) n 0 (omega arith) ∙ get_or-drop 1 B (suc n) 0 ∙ ap (λ k. get_or B k 0) e

pub others_length : (j : ℕ) (B : List ℕ) → 1 ≤ j → j < length B → length (others_of j B) ≡ length B - 2
unfolding others_of
others_length j B p h = omega (arith, without_length (j - 1) (drop 1 B) (omega (arith, length-drop 1 B)), length-drop 1 B)

-- ---- cleared of two

-- its form row
pub cleared_row : (E : List ℕ) (y f p : ℕ) (a b : Bool) → times (y ⊕ select 0 a f ⊕ select 0 b p) E ≡ times y E ⊕ select 0 a (times f E) ⊕ select 0 b (times p E)
cleared_row E y f p a b =
    map_at 𝕎 𝕎 (λ x. times x E) (times_sum E) (y ⊕ select 0 a f) b p
    ∙ ap (λ x. x ⊕ select 0 b (times p E)) (map_at 𝕎 𝕎 (λ x. times x E) (times_sum E) y a f)

-- ---- the remainder of a pair, member by member

pub rest_length : (E : ℕ → ℕ → Bool) (j : ℕ) (B : List ℕ) → 1 ≤ j → j < length B → length (pair_rest_lem E j B) ≡ length B - 2
unfolding pair_rest_lem
rest_length E j B p h = length-map (others_of j B) (cleared_of_pair E (get_or B 0 0) (get_or B j 0)) ∙ others_length j B p h

module _ (E : List ℕ) (j : ℕ) (B : List ℕ) (y f p : ℕ) (a b : Bool) (v : ℕ) (new : v ≡ y ⊕ select 0 a f ⊕ select 0 b p) where
  -- the n-th of them stood at i
  pub rest_member : (n i : ℕ) → n < length (others_of j B) → get_or (others_of j B) n 0 ≡ get_or B i 0 → y ≡ get_or B i 0 → f ≡ get_or B 0 0 → p ≡ get_or B j 0
      → form E (get_or B j 0) (get_or B i 0) ≡ a → form E (get_or B 0 0) (get_or B i 0) ≡ b → v ≡ get_or (pair_rest_lem (form E) j B) n 0
  unfolding pair_rest_lem
  rest_member n i h at y-is f-is p-is a-is b-is =
      let x = get_or B i 0 in
      new ∙ ap₂ (λ s t. y ⊕ select 0 s f ⊕ select 0 t p) (sym a-is) (sym b-is)
      ∙ ap (λ s. s ⊕ select 0 (form E (get_or B j 0) x) f ⊕ select 0 (form E (get_or B 0 0) x) p) y-is
      ∙ ap₂ (λ s t. x ⊕ select 0 (form E (get_or B j 0) x) s ⊕ select 0 (form E (get_or B 0 0) x) t) f-is p-is
      ∙ ap (cleared_of_pair (form E) (get_or B 0 0) (get_or B j 0)) (sym at)
      ∙ sym (map_get (cleared_of_pair (form E) (get_or B 0 0) (get_or B j 0)) (others_of j B) n 0 0 h)

  pub rest_row : (n g f-row p-row w : ℕ) → g ≡ times y E → f-row ≡ times f E → p-row ≡ times p E → w ≡ g ⊕ select 0 a f-row ⊕ select 0 b p-row
      → v ≡ get_or (pair_rest_lem (form E) j B) n 0 → w ≡ get_or (matmul (pair_rest_lem (form E) j B) E) n 0
  rest_row n g f-row p-row w g-is f-is p-is w-is v-is =
      w-is ∙ ap (λ s. s ⊕ select 0 a f-row ⊕ select 0 b p-row) g-is ∙ ap₂ (λ s t. times y E ⊕ select 0 a s ⊕ select 0 b t) f-is p-is
      ∙ sym (cleared_row E y f p a b) ∙ ap (λ s. times s E) (sym new ∙ v-is) ∙ sym (row_times (pair_rest_lem (form E) j B) E n)
