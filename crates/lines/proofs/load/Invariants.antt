-- `load` adds the touched qubits: the sum and the load of the rest make the load, by `load_next`; it fits, by `touched_within`.
use mathlib.Core.Path.{◌≡◌}
use Prim.Native.Nat.{◌+◌, ◌*◌, ◌≤◌}
use lib.ListN.{drop}
use Rattle.blocks.specs.Words.{rows_of_words}
use Rattle.lines.specs.Lines.{load}
use Rattle.lines.proofs.load.Given as goal

abbrev pub invariant-loop-w : goal.invariant-loop-w
invariant-loop-w l = (l.sum ≤ 64 * l.w-index) × (l.sum + load l.n (drop l.w-index (rows_of_words l.n l.words)) ≡ load l.n (rows_of_words l.n l.words))
