-- `word_at` reads 8 bytes; past the end of every file the number is 0.
use mathlib.Core.Path.{sym}
use Prim.Native.Nat.{◌+◌, ◌*◌}
use native.Mathlib.Omega.{arith}
use Rattle.numbers.proofs.Numbers.{number_past}
use Rattle.job.proofs.word_at.Goals as goal

pub returns-then-k-gt-LAST_INDEX : goal.returns-then-k-gt-LAST_INDEX
returns-then-k-gt-LAST_INDEX c =
    let s = c.args in
    sym (number_past s.file.now (s.offset + 8 * s.k) 8 (omega arith))
