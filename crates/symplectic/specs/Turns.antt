-- Vectors, the pairing, turns, products of turns, and the symplectic test.
-- A vector of n qubits is a row of 2n columns: bit q is the x of qubit q, bit n + q its z.
-- Assumes nothing.
use Rattle.std.specs.List.{list_all}
use Rattle.std.specs.Prelude.{Bool, ℕ, ◌+◌, ◌/◌, ◌%◌, ◌^◌}
use Rattle.std.specs.Bool.{beq}
use mathlib.Core.List.{List, [], ◌∷◌, map, zip, zip_with}
use Rattle.binar.specs.Bits.{◌⊻◌, select, ◌⊕◌, dot}
use Rattle.blocks.specs.Matrices.{units}

-- the x bits of a vector, and its z bits
unfoldable pub x_bits : ℕ → ℕ → ℕ
x_bits n v = v % 2 ^ n

unfoldable pub z_bits : ℕ → ℕ → ℕ
z_bits n v = v / 2 ^ n % 2 ^ n

-- the pairing <u,v>: the sum modulo 2 of u's x times v's z and u's z times v's x over all qubits
unfoldable pub pairing : ℕ → ℕ → ℕ → Bool
pairing n u v = dot (x_bits n u) (z_bits n v) ⊻ dot (z_bits n u) (x_bits n v)

-- the transvection (document 01: turn) of v sends u to u + <u,v>v
unfoldable pub turn : ℕ → ℕ → ℕ → ℕ
turn n v u = u ⊕ select 0 (pairing n u v) v

-- a matrix followed by the turn of v
unfoldable pub followed : ℕ → List ℕ → ℕ → List ℕ
followed n F v = map (turn n v) F

-- a matrix followed by the turns of a list, in order
abbrev pub followed_by : ℕ → List ℕ → List ℕ → List ℕ
followed_by n F [] = F
followed_by n F (v ∷ vs) = followed_by n (followed n F v) vs

-- the product of a list: it starts from the identity and applies the turns in order on the right
unfoldable pub product : ℕ → List ℕ → List ℕ
product n vs = followed_by n (units (n + n)) vs

-- two rows pair as their two basis vectors do
unfoldable pub pair_alike : ℕ → ℕ × ℕ → ℕ × ℕ → Bool
pair_alike n a b = beq (pairing n a.0 b.0) (pairing n a.1 b.1)

-- F is symplectic: its rows pair as the basis does
unfoldable pub symplectic : ℕ → List ℕ → Bool
symplectic n F = let rows = zip F (units (n + n)) in list_all (λ a. list_all (pair_alike n a) rows) rows

-- I + F
unfoldable pub identity_plus : ℕ → List ℕ → List ℕ
identity_plus n F = zip_with ◌⊕◌ F (units (n + n))
