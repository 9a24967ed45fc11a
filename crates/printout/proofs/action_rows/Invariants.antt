-- `action_rows` holds that the words before `k` are those of the part, by `words_more`.
use mathlib.Core.Path.{◌≡◌}
use Prim.Native.Nat.{◌*◌}
use lib.ListN.{length, take}
use Rattle.numbers.specs.Numbers.{part}
use Rattle.printout.specs.Printout.{words_of_bytes}
use Rattle.printout.proofs.action_rows.Given as goal

abbrev pub invariant-loop-k : goal.invariant-loop-k
invariant-loop-k l = (length l.row-items ≡ l.m) × (take l.k l.row-items ≡ words_of_bytes l.k (part l.file l.offset (8 * l.m)))
