-- `put_plus` puts the rows of I + F one by one, by `plus_from_at`, as far as there is room.
use mathlib.Core.Path.{◌≡◌}
use mathlib.Core.List.{List, ◌++◌}
use Prim.Native.Nat.{ℕ}
use lib.ListN.{take, drop}
use Rattle.blocks.specs.Words.{rows_in_lem}
use Rattle.actions.specs.declared.Action.{Action}
use Rattle.actions.specs.Actions.{qubits, matrix}
use Rattle.symplectic.specs.Turns.{identity_plus}
use Rattle.residue.proofs.put_plus.Given as goal

abbrev pub from : ℕ → Action → List ℕ
from k a = let l = identity_plus (qubits a) (matrix a) in drop k l ++ take k l

abbrev pub invariant-loop-i : goal.invariant-loop-i
invariant-loop-i l =
    rows_in_lem l.w ≡ take l.i (from l.k l.a) ++ drop l.i (rows_in_lem l.initial.w)
