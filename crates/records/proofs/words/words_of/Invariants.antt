-- The words below i are read.
use Rattle.std.proofs.Common.{◌≡◌, ℕ, ◌<◌, ◌*◌, get_or}
use Rattle.numbers.specs.Numbers.{number}
use Rattle.records.proofs.words.words_of.Given as goal

abbrev pub invariant-loop-i : goal.invariant-loop-i
invariant-loop-i g l = (k : ℕ) → k < l.i → get_or l.word-items k 0 ≡ number l.bytes (k * l.size) l.size
