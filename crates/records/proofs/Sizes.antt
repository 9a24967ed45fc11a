-- A record's words and bytes have room: 512 words of 8 bytes are 4,096.
-- Assumes nothing.
use Rattle.std.proofs.Common.{ℕ, ◌+◌, ◌*◌, ◌≤◌, arith, mul-le-mul_right}

pub words_have_room : (words size : ℕ) → words ≤ 512 → size ≤ 8 → words * size ≤ 4096
words_have_room words size w s = omega (arith, mul-le-mul_right size w)

-- of two runs
pub runs_have_room : (lent listed size : ℕ) → lent ≤ 320 → listed ≤ 160 → size ≤ 8 → (lent + listed) * size ≤ 4096
runs_have_room lent listed size l k s = words_have_room (lent + listed) size (omega arith) s

-- of a sheet, a sequence and rows
pub bytes_have_room : (sheet gates count : ℕ) → sheet ≤ 2048 → gates ≤ 1024 → count ≤ 64 → sheet + gates + 8 * count ≤ 4096
bytes_have_room sheet gates count s g c = omega arith
