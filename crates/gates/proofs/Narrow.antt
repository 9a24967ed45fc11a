-- The turns of gates that passed their questions have bits below 2n only.
-- Assumes nothing.
use mathlib.Core.Path.{◌≡◌, refl}
use mathlib.Core.Bool.{Bool, true, false}
use mathlib.Core.List.{List, [], ◌∷◌, map}
use Prim.Native.Nat.{ℕ, ◌+◌, ◌^◌, ◌<◌}
use native.Mathlib.Omega.{arith}
use lib.Dec.{ltb}
use lib.ListN.{length}
use lib.Pow.{pow_pos, pow-lt}
use Rattle.binar.specs.Bits.{select, bit}
use Rattle.binar.proofs.Sums.{sum_lt}
use Rattle.blocks.specs.Matrices.{All}
use Rattle.blocks.proofs.All.{All-map, All-to_map, All-append}
use Rattle.std.specs.List.{list_all}
use Rattle.questions.proofs.Questions.{then_known}
use Rattle.sheets.specs.Sheets.{Gate, gate_fits_lem}
use Rattle.sheets.specs.inner.Seconds.{Second}
use Rattle.sheets.proofs.Checks.{no_turns, gate_second}
use Rattle.gates.specs.Sequences.{turn_vector_lem, no_gate, gate, reads_two, gate_questions, sequence_questions, sequence_turns}
use Rattle.gates.proofs.Asked.{gate_known}

power_lt : (m c : ℕ) (t : Bool) → (t ≡ true → c < m) → select 0 t (2 ^ c) < 2 ^ m
power_lt m c true h = pow-lt (h refl)
power_lt m c false h = pow_pos m

module _ (n a b : ℕ) (first : a < n) where
  vector_lt : (code : ℕ) → Second (b < n) code → turn_vector_lem n a b code < 2 ^ (n + n)
  unfolding turn_vector_lem
  vector_lt code second =
      let m = n + n in
      sum_lt m _ _
      (sum_lt m _ _
      (sum_lt m _ _ (power_lt m a (bit 0 code) (λ e. omega arith)) (power_lt m b (bit 1 code) (λ e. omega (arith, second.0 e))))
      (power_lt m (n + a) (bit 2 code) (λ e. omega arith)))
      (power_lt m (n + b) (bit 3 code) (λ e. omega (arith, second.1 e)))

  turns_lt : (codes : List ℕ) → All (Second (b < n)) codes → All (λ v. v < 2 ^ (n + n)) (map (turn_vector_lem n a b) codes)
  turns_lt codes h = All-to_map (turn_vector_lem n a b) (λ v. v < 2 ^ (n + n)) codes (All-map vector_lt codes h)

-- the turns of a gate that was asked of, where the gates fit
pub turns_second : (P : Type 0) (gates : List Gate) → list_all gate_fits_lem gates ≡ true → (g : ℕ) → (reads_two (gate gates g) ≡ true → P) → All (Second P) (gate gates g).turns
unfolding reads_two gate
turns_second P gates fit = gate_second P gates no_gate (no_turns 0) fit

pub sequence_lt : (n : ℕ) (gates : List Gate) → list_all gate_fits_lem gates ≡ true → (l : List ℕ) → sequence_questions n gates l ≡ 0 → All (λ v. v < 2 ^ (n + n)) (sequence_turns n gates l)
unfolding sequence_questions sequence_turns
sequence_lt n gates fit [] e = tt
sequence_lt n gates fit (g ∷ []) e = tt
sequence_lt n gates fit (g ∷ a ∷ []) e = tt
sequence_lt n gates fit (g ∷ a ∷ b ∷ l) e =
    let two = reads_two (gate gates g) in
    let k = then_known (gate_questions n (ltb g (length gates)) two a b) (sequence_questions n gates l) e in
    let known = gate_known n a b (ltb g (length gates)) two k.0 in
    All-append (λ v. v < 2 ^ (n + n)) (map (turn_vector_lem n a b) (gate gates g).turns) (sequence_turns n gates l)
    (turns_lt n a b known.1 (gate gates g).turns (turns_second (b < n) gates fit g known.2)) (sequence_lt n gates fit l k.1)
