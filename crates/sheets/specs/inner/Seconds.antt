-- What a turn with a part on the second qubit asks. For laws and private contracts only.
-- Assumes nothing.
use Rattle.std.specs.Prelude.{◌≡◌, true, ℕ}
use Rattle.binar.specs.Bits.{bit}

-- where a turn has a part on the second qubit, P
abbrev pub Second : Type 0 → ℕ → Type 0
Second P code = (bit 1 code ≡ true → P) × (bit 3 code ≡ true → P)
