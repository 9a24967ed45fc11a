-- A test of each number of a range: all pass, or there is one that fails.
-- Assumes nothing.
use mathlib.Core.Path.{◌≡◌, refl, sym, subst}
use mathlib.Core.Bool.{Bool, true, false, ◌&&◌, true≢false}
use mathlib.Core.Logic.{⊎_elim}
use Prim.Native.Nat.{ℕ, zero, suc, ◌+◌, ◌≤◌, ◌<◌}
use native.Mathlib.Nat.{eq-or-lt_of_le}
use native.Mathlib.Omega.{arith}
use Rattle.std.specs.List.{list_all, range_with_len}

-- two tests are one where both cases of the first give it
pub same_test : (a b : Bool) → (a ≡ true → true ≡ b) → (a ≡ false → false ≡ b) → a ≡ b
same_test true b p q = p refl
same_test false b p q = q refl

both : (a b : Bool) → a && b ≡ true → (a ≡ true) × (b ≡ true)
both true b e = (refl, e)
both false b e = absurd (true≢false (sym e))

module _ (f : ℕ → Bool) where
  pub range_each : (n a : ℕ) → list_all f (range_with_len a n) ≡ true → (i : ℕ) → a ≤ i → i < a + n → f i ≡ true
  range_each zero a e i l h = absurd (omega arith)
  range_each (suc n) a e i l h =
      let k = both (f a) (list_all f (range_with_len (a + 1) n)) e in
      ⊎_elim (λ (same : a ≡ i). subst (λ (j : ℕ). f j ≡ true) same k.0) (λ (less : a < i). range_each n (a + 1) k.1 i (omega arith) (omega arith))
      (eq-or-lt_of_le l)

  -- one that fails
  abbrev Failing : ℕ → ℕ → Type 0
  Failing n a = (i : ℕ) × ((a ≤ i) × ((i < a + n) × (f i ≡ false)))

  later : (n a : ℕ) → Failing n (a + 1) → Failing (suc n) a
  later n a k = (k.0, (omega (arith, k.1.0), (omega (arith, k.1.1.0), k.1.1.1)))

  one_fails : (n a : ℕ) (b t : Bool) → f a ≡ b → b && t ≡ false → (t ≡ false → Failing n (a + 1)) → Failing (suc n) a
  one_fails n a true t is e rest = later n a (rest e)
  one_fails n a false t is e rest = (a, (omega arith, (omega arith, is)))

  pub range_fails : (n a : ℕ) → list_all f (range_with_len a n) ≡ false → Failing n a
  range_fails zero a e = absurd (true≢false e)
  range_fails (suc n) a e = one_fails n a (f a) (list_all f (range_with_len (a + 1) n)) refl e (range_fails n (a + 1))
