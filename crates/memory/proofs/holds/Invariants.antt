-- `holds` looks at the entries one by one: those that are left hold the space just where all do.
use mathlib.Core.Path.{◌≡◌}
use Rattle.std.specs.Slice.Iter.{chunks_exact_rest, chunks_exact_size}
use Rattle.blocks.specs.Words.{rows_in_lem}
use Rattle.memory.specs.Entries.{entry_size, room_in, held_in}
use Rattle.memory.proofs.holds.Given as goal

abbrev pub invariant-loop-entry : goal.invariant-loop-entry
invariant-loop-entry l =
    (chunks_exact_size l.entry-iterator ≡ entry_size)
    × (held_in (room_in (chunks_exact_rest l.entry-iterator)) (rows_in_lem l.basis) (chunks_exact_rest l.entry-iterator) ≡ held_in (room_in l.memory) (rows_in_lem l.basis) l.memory)
