-- A vector sent through turns, a vector with its halves exchanged, the pairing qubit by qubit, and one row of the symplectic test.
-- Assumes nothing.
use Rattle.std.specs.Prelude.{Bool, false, ◌&&◌, ℕ, zero, suc, ◌+◌, ◌*◌, ◌^◌, get_or, take}
use mathlib.Core.List.{List, [], ◌∷◌, zip}
use Rattle.binar.specs.Bits.{◌⊻◌, bit}
use Rattle.blocks.specs.Matrices.{units}
use Rattle.symplectic.specs.Turns.{x_bits, z_bits, turn, pair_alike}
use Rattle.std.specs.List.{list_all}

-- a vector sent through the turns of a list, in order
abbrev pub run : ℕ → List ℕ → ℕ → ℕ
run n [] u = u
run n (v ∷ vs) u = run n vs (turn n v u)

-- row i pairs with the rows below row j as its basis vector does with theirs
unfoldable pub pairs_below : ℕ → List ℕ → ℕ → ℕ → Bool
pairs_below n F i j = list_all (pair_alike n (get_or F i 0, 2 ^ i)) (take j (zip F (units (n + n))))

-- a vector with its halves exchanged
unfoldable pub swap_halves_lem : ℕ → ℕ → ℕ
swap_halves_lem n v = x_bits n v * 2 ^ n + z_bits n v

-- k qubits of two vectors of n from qubit q on: the sum modulo 2 of u's x times v's z and u's z times v's x
abbrev pub pairing_from : ℕ → ℕ → ℕ → ℕ → ℕ → Bool
pairing_from n u v zero q = false
pairing_from n u v (suc k) q = ((bit q u && bit (n + q) v) ⊻ (bit (n + q) u && bit q v)) ⊻ pairing_from n u v k (suc q)
