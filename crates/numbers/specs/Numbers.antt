-- Numbers that stand in bytes, little-endian; bytes past the end are 0.
-- Assumes nothing.
use Rattle.std.specs.Prelude.{List, [], ◌∷◌, ℕ, ◌+◌, ◌*◌, take, drop}

-- a little-endian number
unfoldable pub little_endian : List ℕ → ℕ
little_endian [] = 0
little_endian (b ∷ bs) = b + 256 * little_endian bs

-- `size` bytes from `offset` on
unfoldable pub part : List ℕ → ℕ → ℕ → List ℕ
part bytes offset size = take size (drop offset bytes)

unfoldable pub number : List ℕ → ℕ → ℕ → ℕ
number bytes offset size = little_endian (part bytes offset size)
