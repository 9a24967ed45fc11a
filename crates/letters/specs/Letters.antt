-- The letters: each by its bits x and z, as a vector of one qubit, and as it is printed; what two pair to; the letters of a vector.
-- Assumes nothing.
use Rattle.std.specs.Prelude.{Bool, true, false, cond, ◌&&◌, List, [], ◌∷◌, map, ℕ, zero, suc, ◌+◌, ◌*◌}
use Rattle.std.specs.Bool.{beq}
use Rattle.binar.specs.Bits.{digit, bit}
use Rattle.symplectic.specs.Turns.{pairing}
use Rattle.letters.specs.declared.Letter.{Letter}
use Rattle.letters.specs.declared.Letter.TheVariants.{I, X, Y, Z}

-- a letter as (x, z). The one table of the letters, open to users
abbrev pub bits : Letter → Bool × Bool
bits I = (false, false)
bits X = (true, false)
bits Y = (true, true)
bits Z = (false, true)

-- all of them, in the order of the chart
abbrev pub alphabet : List Letter
alphabet = I ∷ X ∷ Y ∷ Z ∷ []

-- the first of a list of letters with bits x and z
abbrev pub first_with : Bool → Bool → List Letter → Letter
first_with x z [] = I
first_with x z (l ∷ ls) = cond (beq (bits l).0 x && beq (bits l).1 z) l (first_with x z ls)

-- the letter of a qubit with bits x and z
unfoldable pub letter : Bool → Bool → Letter
letter x z = first_with x z alphabet

-- a letter as a vector of one qubit: its x in column 0, its z in column 1
unfoldable pub vector : Letter → ℕ
vector l = digit (bits l).1 * 2 + digit (bits l).0

-- what two letters pair to
abbrev pub chart : Letter → Letter → Bool
chart a b = pairing 1 (vector a) (vector b)

-- k qubits of a vector of n from qubit q on
unfoldable pub letters_from : ℕ → ℕ → ℕ → ℕ → List Letter
letters_from n v zero q = []
letters_from n v (suc k) q = letter (bit q v) (bit (n + q) v) ∷ letters_from n v k (suc q)

-- a vector as n letters, qubit 0 first
unfoldable pub letters : ℕ → ℕ → List Letter
letters n v = letters_from n v n 0

-- a letter as it is printed
abbrev pub byte : Letter → ℕ
byte I = 73
byte X = 88
byte Y = 89
byte Z = 90

-- a vector as it is printed
unfoldable pub spelling : ℕ → ℕ → List ℕ
spelling n v = map byte (letters n v)
