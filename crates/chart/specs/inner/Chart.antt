-- The lines of the commutation chart, byte by byte.
-- Assumes nothing.
use Rattle.std.specs.Prelude.{List, [], ◌∷◌, ℕ, ◌+◌}
use Rattle.binar.specs.Bits.{digit}
use Rattle.letters.specs.declared.Letter.{Letter}
use Rattle.letters.specs.declared.Letter.TheVariants.{I, X, Y, Z}
use Rattle.letters.specs.Letters.{chart, byte}
use Rattle.lines.specs.Lines.{space, newline}

-- what stands in front, then the columns of I, X, Y and Z
abbrev pub line : ℕ → ℕ → ℕ → ℕ → ℕ → List ℕ
line front i x y z = front ∷ space ∷ i ∷ space ∷ x ∷ space ∷ y ∷ space ∷ z ∷ newline ∷ []

-- the letters, each over its column
unfoldable pub heading : List ℕ
heading = line space (byte I) (byte X) (byte Y) (byte Z)

-- a letter, and what it pairs to with each
unfoldable pub row : Letter → List ℕ
row a = let with : Letter → ℕ = λ b. 48 + digit (chart a b) in line (byte a) (with I) (with X) (with Y) (with Z)
