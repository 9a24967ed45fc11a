-- Spaces of a core E: the form row of a member is the member times E, so a form with it is a dot; and a core in lent words.
-- Assumes nothing.
use mathlib.Core.Path.{◌≡◌, refl, sym, ap, ◌∙◌, fun_ext}
use mathlib.Core.Bool.{Bool}
use mathlib.Core.List.{List}
use Prim.Native.Nat.{ℕ}
use lib.ListN.{get_or, take}
use Rattle.binar.specs.Bits.{dot}
use Rattle.binar.specs.Rows.{width}
use Rattle.blocks.specs.Words.{rows_in_lem}
use Rattle.blocks.specs.Matrices.{times, matmul}
use Rattle.blocks.proofs.Products.{row_times}
use Rattle.residue.specs.Residue.{form}
use Rattle.residue.proofs.Forms.{form_is}
use Rattle.triangular.specs.Readings.{core_in}

module _ (B G E : List ℕ) (is : matmul B E ≡ G) where
  pub core_row : (i : ℕ) → get_or G i 0 ≡ times (get_or B i 0) E
  core_row i = ap (λ M. get_or M i 0) (sym is) ∙ row_times B E i

pub form_dot : (E : List ℕ) (p f y : ℕ) → f ≡ times p E → form E p y ≡ dot f y
form_dot E p f y e = form_is E p y ∙ ap (λ x. dot x y) (sym e)

pub form_row : (E : List ℕ) (p f : ℕ) → f ≡ times p E → ◌≡◌ {A = ℕ → Bool} (form E p) (dot f)
form_row E p f e = fun_ext (λ y. form_dot E p f y e)

-- ---- a core in lent words

pub core_in_lem : (ws : List ℕ) → core_in ws ≡ take width (rows_in_lem ws)
unfolding core_in
core_in_lem ws = refl
