-- `played` refuses by the first gate that is refused, else it lays the product of the turns, gate by gate by `upto_next`.
use mathlib.Core.Path.{◌≡◌}
use Prim.Native.Nat.{◌*◌}
use lib.ListN.{length}
use Rattle.blocks.specs.Words.{rows_in_lem}
use Rattle.sheets.specs.Sheets.{gates_of}
use Rattle.gates.proofs.Asked.{Upto}
use Rattle.gates.proofs.played.Given as goal

abbrev pub invariant-loop-gate : goal.invariant-loop-gate
invariant-loop-gate l = (length l.w ≡ length l.initial.w) × Upto l.n (gates_of l.sheet) l.bytes (l.gate-index * 3) (rows_in_lem l.w)
