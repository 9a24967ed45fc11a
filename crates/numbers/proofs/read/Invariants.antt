-- `read` reads from the last byte: what is read is the number of the bytes from `i` on, below 256 to their count.
use Rattle.std.proofs.Common.{◌≡◌, ◌+◌, ◌-◌, ◌^◌, ◌<◌}
use Rattle.numbers.specs.Numbers.{number}
use Rattle.numbers.proofs.read.Given as goal

abbrev pub invariant-loop-i : goal.invariant-loop-i
invariant-loop-i l = record {
  read : l.v ≡ number l.bytes (l.from + l.i) (l.size - l.i);
  below : l.v < 256 ^ (l.size - l.i);
}
