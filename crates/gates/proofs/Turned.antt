-- The parts of a turn's vector; one turn more of a gate.
-- Assumes nothing.
use mathlib.Core.Path.{◌≡◌, refl, sym, ap, ap₂, ◌∙◌}
use mathlib.Core.Bool.{Bool, true, false}
use mathlib.Core.List.{List, map}
use Prim.Native.Nat.{ℕ, ◌+◌, ◌^◌, ◌≤◌, ◌<◌}
use native.Mathlib.Numerals.{add-one}
use native.Mathlib.Omega.{arith}
use lib.ListN.{length, get_or, drop, drop_of_length-le}
use lib.Seq.{drop-cons}
use Rattle.binar.specs.Bits.{select, bit, ◌⊕◌}
use Rattle.binar.specs.Rows.{width, unit}
use Rattle.binar.proofs.Ones.{unit_is}
use Rattle.symplectic.specs.Sizes.{max_qubits}
use Rattle.symplectic.specs.Turns.{followed, followed_by}
use Rattle.sheets.specs.inner.Seconds.{Second}
use Rattle.gates.specs.Sequences.{turn_vector_lem}

-- ---- a vector

module _ (n a b code : ℕ) (size : n ≤ max_qubits) (first : a < n) (second : Second (b < n) code) where
  picked : (k c : ℕ) → (bit k code ≡ true → c < width) → select 0 (bit k code) (unit c) ≡ select 0 (bit k code) (2 ^ c)
  picked k c h = cases (bit k code) h
    where
      cases : (t : Bool) → (t ≡ true → c < width) → select 0 t (unit c) ≡ select 0 t (2 ^ c)
      cases true f = unit_is c (f refl)
      cases false f = refl

  pub vector_parts : select 0 (bit 0 code) (unit a) ⊕ select 0 (bit 1 code) (unit b) ⊕ select 0 (bit 2 code) (unit (n + a)) ⊕ select 0 (bit 3 code) (unit (n + b))
      ≡ turn_vector_lem n a b code
  unfolding turn_vector_lem
  vector_parts =
      ap₂ ◌⊕◌
      (ap₂ ◌⊕◌ (ap₂ ◌⊕◌ (picked 0 a (λ e. omega arith)) (picked 1 b (λ e. omega (arith, second.0 e)))) (picked 2 (n + a) (λ e. omega arith)))
      (picked 3 (n + b) (λ e. omega (arith, second.1 e)))

-- ---- the turns of a gate

module _ (n : ℕ) (f : ℕ → ℕ) (turns : List ℕ) where
  pub turns_next : (F : List ℕ) (j : ℕ) → j < length turns
      → followed_by n F (map f (drop j turns)) ≡ followed_by n (followed n F (f (get_or turns j 0))) (map f (drop (j + 1) turns))
  turns_next F j h =
      ap (λ (x : List ℕ). followed_by n F (map f x)) (drop-cons turns j 0 h)
      ∙ ap (λ (k : ℕ). followed_by n (followed n F (f (get_or turns j 0))) (map f (drop k turns))) (sym (add-one j))

  pub turns_end : (F : List ℕ) (j : ℕ) → length turns ≤ j → followed_by n F (map f (drop j turns)) ≡ F
  turns_end F j h = ap (λ (x : List ℕ). followed_by n F (map f x)) (drop_of_length-le turns {i = j} h)
