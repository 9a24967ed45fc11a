-- The pairing qubit by qubit, in document 01's words.
-- Assumes nothing.
use mathlib.Core.Path.{◌≡◌, sym, ap, ap₂, ◌∙◌}
use mathlib.Core.Bool.{Bool, false, ◌&&◌}
use Prim.Native.Nat.{ℕ, zero, suc, ◌/◌, ◌%◌, ◌^◌}
use native.Mathlib.Nat.{div-one, mod-one}
use Rattle.binar.specs.Bits.{◌⊻◌, bit, dot}
use Rattle.binar.proofs.Digits.{bit_down}
use Rattle.binar.proofs.Dots.{dot_zero, dot_from}
use Rattle.linear.proofs.Instances.{𝔹}
use Rattle.linear.proofs.Sums.{swap4}
use Rattle.symplectic.specs.Turns.{x_bits, z_bits, pairing}
use Rattle.symplectic.specs.inner.Vectors.{pairing_from}

module _ (n u v : ℕ) where
  -- x of u with z of v, and z of u with x of v, in k columns from q on
  abbrev crossed : ℕ → ℕ → Bool
  crossed k q = dot (u / 2 ^ q % 2 ^ k) (v / 2 ^ n / 2 ^ q % 2 ^ k) ⊻ dot (u / 2 ^ n / 2 ^ q % 2 ^ k) (v / 2 ^ q % 2 ^ k)

  crossed_from : (k q : ℕ) → crossed k q ≡ pairing_from n u v k q
  crossed_from zero q = ap₂ ◌⊻◌ (none (u / 2 ^ q) (v / 2 ^ n / 2 ^ q)) (none (u / 2 ^ n / 2 ^ q) (v / 2 ^ q))
    where
      none : (a b : ℕ) → dot (a % 2 ^ 0) (b % 2 ^ 0) ≡ false
      none a b = ap (dot (a % 1)) (mod-one b) ∙ dot_zero (a % 1)
  crossed_from (suc k) q =
      let low : ℕ → ℕ → Bool = λ a b. bit q a && bit q b in
      let rest : ℕ → ℕ → Bool = λ a b. dot (a / 2 ^ suc q % 2 ^ k) (b / 2 ^ suc q % 2 ^ k) in
      ap₂ ◌⊻◌ (dot_from q k u (v / 2 ^ n)) (dot_from q k (u / 2 ^ n) v)
      ∙ swap4 𝔹 (low u (v / 2 ^ n)) (rest u (v / 2 ^ n)) (low (u / 2 ^ n) v) (rest (u / 2 ^ n) v)
      ∙ ap₂ ◌⊻◌ (ap₂ (λ s t. (bit q u && s) ⊻ (t && bit q v)) (bit_down n q v) (bit_down n q u)) (crossed_from k (suc q))

  pub pairing_from_lem : pairing n u v ≡ pairing_from n u v n 0
  unfolding pairing x_bits z_bits
  pairing_from_lem = ap₂ ◌⊻◌ (whole u (v / 2 ^ n)) (whole (u / 2 ^ n) v) ∙ crossed_from n 0
    where
      whole : (a b : ℕ) → dot (a % 2 ^ n) (b % 2 ^ n) ≡ dot (a / 2 ^ 0 % 2 ^ n) (b / 2 ^ 0 % 2 ^ n)
      whole a b = ap₂ (λ s t. dot (s % 2 ^ n) (t % 2 ^ n)) (sym (div-one a)) (sym (div-one b))
