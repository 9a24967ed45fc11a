-- `entry_at` reads four numbers, each of which fits its field; past the end of every file they are 0.
use mathlib.Core.Path.{sym}
use native.Mathlib.Omega.{arith}
use Rattle.job.proofs.Entries.{entry_past, entry_read}
use Rattle.job.proofs.entry_at.Goals as goal

pub returns-then-i-gt-LAST_INDEX : goal.returns-then-i-gt-LAST_INDEX
returns-then-i-gt-LAST_INDEX c =
    let s = c.args in
    sym (entry_past s.file.now s.i (omega arith))

pub returns : goal.returns
returns c =
    let s = c.args in
    let kind = c.number_at-kind in
    let byte = c.number_at-zero_byte in
    let count = c.number_at-count in
    entry_read s.file.now s.i kind.result byte.result count.result c.number_at-offset.result kind.ensures.0 byte.ensures.0
    count.ensures.0 c.number_at-offset.ensures.0
