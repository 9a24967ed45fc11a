-- The Gram matrix of members B by a core E: its bits are the forms, a sum of its rows has the dots of the drawn vector's form row, and what is left of it once a member is dropped.
-- Assumes nothing.
use mathlib.Core.Path.{◌≡◌, refl, sym, ap, ap₂, ◌∙◌, subst}
use mathlib.Core.List.{List}
use mathlib.Core.Bool.{Bool, ◌&&◌, and-true}
use Prim.Native.Nat.{ℕ, ◌%◌, ◌^◌, ◌≤◌, ◌<◌}
use lib.Dec.{ltb}
use lib.ListN.{length, get_or, take, length-map}
use lib.Seq.{get_or-take, length-take-le}
use borrow.Author.Tests.{lt-ltb}
use Rattle.binar.specs.Bits.{bit, dot}
use Rattle.binar.proofs.Dots.{dot_comm}
use Rattle.blocks.specs.Matrices.{times, matmul, dots, units}
use Rattle.blocks.proofs.Products.{dots_sum, dot_times, bit_dots, times_unit, times_matmul, matmul_length, row_times}
use Rattle.blocks.proofs.Units.{units_length, units_at, dots_units}
use Rattle.blocks.proofs.Values.{map_get}
use Rattle.linear.proofs.Rows.{map_times}
use Rattle.residue.specs.Residue.{form}
use Rattle.spaces.specs.Levels.{below, gram_of, form_in}
use Rattle.spaces.proofs.Behind.{below_length, below_at}
use Rattle.triangular.specs.Spaces.{is_alternating_lem}
use Rattle.triangular.proofs.Alternates.{alternating_alike}
use Rattle.triangular.proofs.Cores.{form_dot}

-- ---- its rows and bits

module _ (E B G : List ℕ) (is : gram_of E B ≡ G) where
  pub gram_length : length G ≡ length B
  unfolding gram_of
  gram_length = ap length (sym is) ∙ length-map (matmul B E) (dots B) ∙ matmul_length B E

  pub gram_row : (i : ℕ) → i < length B → get_or G i 0 ≡ dots B (times (get_or B i 0) E)
  unfolding gram_of
  gram_row i h =
      ap (λ M. get_or M i 0) (sym is) ∙ map_get (dots B) (matmul B E) i 0 0 (subst (λ n. i < n) (sym (matmul_length B E)) h) ∙ ap (dots B) (row_times B E i)

  pub gram_bit : (i j : ℕ) → i < length B → j < length B → bit j (get_or G i 0) ≡ form E (get_or B i 0) (get_or B j 0)
  gram_bit i j h k =
      ap (bit j) (gram_row i h) ∙ bit_dots B (times (get_or B i 0) E) j k ∙ sym (form_dot E (get_or B i 0) (times (get_or B i 0) E) (get_or B j 0) refl)

  -- of a drawn vector p: the sum of its rows has the dots of p's form row, and tells the form of p with itself
  module _ (c : ℕ) where
    pub gram_drawn : times c G ≡ dots B (times (times c B) E)
    unfolding gram_of
    gram_drawn = ap (times c) (sym is) ∙ sym (map_times (dots B) (dots_sum B) (matmul B E) c) ∙ ap (dots B) (times_matmul B E c)

    pub gram_self : form E (times c B) (times c B) ≡ dot c (times c G)
    gram_self =
        form_dot E (times c B) (times (times c B) E) (times c B) refl ∙ dot_comm (times (times c B) E) (times c B)
        ∙ dot_times B c (times (times c B) E) ∙ ap (dot c) (sym gram_drawn)

-- ---- read from the first d of lent rows

module _ (d : ℕ) (w : List ℕ) (long : d ≤ length w) (E B : List ℕ) (is : gram_of E B ≡ take d w) where
  lent_length : length B ≡ d
  lent_length = sym (gram_length E B (take d w) is) ∙ length-take-le d w long

  -- it is alternating where the form is so on the members
  gram_alternating : is_alternating_lem (form_in w) (below d) ≡ is_alternating_lem (form E) B
  gram_alternating =
      alternating_alike (form_in w) (form E) (below d) B (below_length d ∙ sym lent_length) (λ i j h k. same i j (subst (λ n. i < n) (below_length d) h) (subst (λ n. j < n) (below_length d) k))
    where
      same : (i j : ℕ) → i < d → j < d → form_in w (get_or (below d) i 0) (get_or (below d) j 0) ≡ form E (get_or B i 0) (get_or B j 0)
      same i j h k =
          ap₂ (form_in w) (below_at d i h) (below_at d j k) ∙ ap (bit j) (sym (get_or-take d w i 0 h))
          ∙ gram_bit E B (take d w) is i j (subst (λ n. i < n) (sym lent_length) h) (subst (λ n. j < n) (sym lent_length) k)

  -- so the test of a space that has members tells
  pub tested_form : 0 < d → (t : Bool) → t ≡ (is_alternating_lem (form_in w) (below d) && ltb 0 d) → is_alternating_lem (form E) B ≡ t
  tested_form h t e = sym (e ∙ ap₂ ◌&&◌ gram_alternating (lt-ltb 0 d h) ∙ and-true (is_alternating_lem (form E) B))

-- ---- of the unit rows: the core, as far as these have columns

pub gram_units : (k : ℕ) (E : List ℕ) (i : ℕ) → i < k → get_or (gram_of E (units k)) i 0 ≡ get_or E i 0 % 2 ^ k
gram_units k E i h =
    gram_row E (units k) (gram_of E (units k)) refl i (subst (λ n. i < n) (sym (units_length k)) h)
    ∙ ap (dots (units k)) (ap (λ u. times u E) (units_at i k h) ∙ times_unit i E) ∙ dots_units k (get_or E i 0)
