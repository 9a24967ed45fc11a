-- The members of a space beside their form rows, as they are read; and what is picked, beside its form row.
-- Assumes nothing.
use mathlib.Core.Path.{◌≡◌, refl, sym, ap, ap₂, ◌∙◌}
use mathlib.Core.Bool.{Bool, true, false, not, beq}
use mathlib.Core.List.{List}
use mathlib.Core.Option.{Option, none, some}
use Rattle.std.specs.Prelude.{Option as Answer, Some, None, MatchOption}
use Prim.Native.Nat.{ℕ, ◌≤◌, ◌<◌}
use lib.ListN.{length, get_or, take, length-take}
use lib.Seq.{get_or-take}
use native.Mathlib.Omega.{arith}
use Rattle.binar.specs.Bits.{◌⊻◌, ◌⊕◌, dot}
use Rattle.binar.specs.Rows.{val}
use Rattle.blocks.specs.Matrices.{times, matmul}
use Rattle.blocks.proofs.Products.{times_sum, matmul_length}
use Rattle.symplectic.specs.Picks.{map_some, first_one_lem, first_uneven_lem, pick}
use Rattle.symplectic.proofs.FirstPicks.{pick_of_one, pick_of_uneven}
use Rattle.residue.specs.Residue.{form}
use Rattle.triangular.proofs.Cores.{core_row, form_dot}
use Rattle.family.specs.declared.Picked.{Picked}
use Rattle.family.specs.inner.Parts.{beside_row, picked_of}

-- two bits that differ
pub differ : (a b : Bool) → not (beq a b) ≡ a ⊻ b
differ true true = refl
differ true false = refl
differ false true = refl
differ false false = refl

-- ---- members and form rows: the first d of two lists

pub member_is : (d : ℕ) (b : List ℕ) (i : ℕ) → i < d → (y : ℕ) → y ≡ get_or b i 0 → y ≡ get_or (take d b) i 0
member_is d b i h y e = e ∙ sym (get_or-take d b i 0 h)

module _ (d : ℕ) (b f E : List ℕ) (fit : matmul (take d b) E ≡ take d f) where
  pub row_is : (i : ℕ) → i < d → (g : ℕ) → g ≡ get_or f i 0 → g ≡ times (get_or (take d b) i 0) E
  row_is i h g e = member_is d f i h g e ∙ core_row (take d b) (take d f) E fit i

  -- a dot of what is read is the form of two members
  pub member_form : (i j : ℕ) → i < d → j < d → (g y : ℕ) → g ≡ get_or f i 0 → y ≡ get_or b j 0 → (t : Bool) → t ≡ dot g y
      → form E (get_or (take d b) i 0) (get_or (take d b) j 0) ≡ t
  member_form i j h k g y g-is y-is t e =
      form_dot E (get_or (take d b) i 0) g (get_or (take d b) j 0) (row_is i h g g-is) ∙ ap (dot g) (sym (member_is d b j k y y-is)) ∙ sym e

-- as many form rows as members
pub fit_length : (d : ℕ) (b f E : List ℕ) → matmul (take d b) E ≡ take d f → d ≤ length b → d ≤ length f
fit_length d b f E fit h =
    let size = ap length (sym fit) ∙ matmul_length (take d b) E in
    omega (arith, length-take d b, length-take d f)

-- ---- what is picked

-- a vector and its row
pub vector_picked : (E : List ℕ) (v r x : ℕ) (w : Option ℕ) → v ≡ x → r ≡ times x E → w ≡ some x → some (v, r) ≡ map_some (beside_row E) w
vector_picked E v r x w e f is = ap₂ (λ a b. some (a, b)) e f ∙ ap (map_some (beside_row E)) (sym is)

-- the sums of two vectors and of their rows
pub sum_picked : (E : List ℕ) (v r x y f g : ℕ) (w : Option ℕ) → v ≡ x ⊕ y → r ≡ f ⊕ g → f ≡ times x E → g ≡ times y E → w ≡ some (x ⊕ y)
    → some (v, r) ≡ map_some (beside_row E) w
sum_picked E v r x y f g w e d a b is = vector_picked E v r (x ⊕ y) w e (d ∙ ap₂ ◌⊕◌ a b ∙ sym (times_sum E x y)) is

-- a picked value that is a vector, and one that is none
module _ (E : List ℕ) where
  pub picked_vector : (p : Picked) (w : Option ℕ) → picked_of (Some p) ≡ map_some (beside_row E) w → (w ≡ some (val p.member)) × (val p.row ≡ times (val p.member) E)
  picked_vector p none d = let z : ◌≡◌ {A = ℕ} 0 1 = cc in absurd (omega arith)
  picked_vector p (some x) d =
      let both : ◌≡◌ {A = ℕ × ℕ} (val p.member, val p.row) (x, times x E) = cc in
      let same : x ≡ val p.member = sym (ap (λ (q : ℕ × ℕ). q.0) both) in
      (ap some same, ap (λ (q : ℕ × ℕ). q.1) both ∙ ap (λ y. times y E) same)

  pub picked_nothing : (w : Option ℕ) → picked_of None ≡ map_some (beside_row E) w → w ≡ none
  picked_nothing none d = refl
  picked_nothing (some x) d = let z : ◌≡◌ {A = ℕ} 0 1 = cc in absurd (omega arith)

  -- the first choice where it is made, else the second
  pub either_picked : (B : List ℕ) (first later : Answer Picked) {N : Type 0} → picked_of first ≡ map_some (beside_row E) (first_one_lem ◌⊕◌ (form E) B)
      → MatchOption first N (λ p. later ≡ Some p) → (N → picked_of later ≡ map_some (beside_row E) (first_uneven_lem ◌⊕◌ (form E) B))
      → picked_of later ≡ map_some (beside_row E) (pick ◌⊕◌ (form E) B)
  either_picked B None later is m second =
      second m ∙ ap (map_some (beside_row E)) (sym (pick_of_uneven ◌⊕◌ (form E) B (picked_nothing (first_one_lem ◌⊕◌ (form E) B) is)))
  either_picked B (Some p) later is m second =
      let found = (picked_vector p (first_one_lem ◌⊕◌ (form E) B) is).0 in
      ap picked_of m ∙ is ∙ ap (map_some (beside_row E)) (found ∙ sym (pick_of_one ◌⊕◌ (form E) B (val p.member) found))
