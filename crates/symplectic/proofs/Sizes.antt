-- A qubit count within the most.
-- Assumes nothing.
use mathlib.Core.Path.{◌≡◌}
use Prim.Native.Nat.{ℕ, ◌≤◌}
use native.Mathlib.Omega.{arith}
use Rattle.symplectic.specs.Sizes.{max_qubits, capped}

pub capped_le : (n : ℕ) → capped n ≤ max_qubits
unfolding capped
capped_le n = omega arith

pub capped_is : (n : ℕ) → n ≤ max_qubits → capped n ≡ n
unfolding capped
capped_is n h = omega arith
