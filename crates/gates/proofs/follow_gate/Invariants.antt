-- `follow_gate` makes the turns of the line one by one, by `turns_next`.
use mathlib.Core.Path.{◌≡◌}
use mathlib.Core.List.{map}
use lib.ListN.{length, drop}
use Rattle.numbers.specs.Numbers.{part}
use Rattle.blocks.specs.Words.{rows_in_lem}
use Rattle.symplectic.specs.Turns.{followed_by}
use Rattle.gates.specs.Sequences.{turn_vector_lem}
use Rattle.gates.proofs.follow_gate.Given as goal

abbrev pub invariant-loop-code : goal.invariant-loop-code
invariant-loop-code l =
    (length l.w ≡ length l.initial.w)
    × (followed_by l.n (rows_in_lem l.w) (map (turn_vector_lem l.n l.a l.b) (drop l.code-index (part l.sheet l.fn.l.offset l.fn.l.count))) ≡ followed_by l.n (rows_in_lem l.initial.w) (map (turn_vector_lem l.n l.a l.b) (part l.sheet l.fn.l.offset l.fn.l.count)))
