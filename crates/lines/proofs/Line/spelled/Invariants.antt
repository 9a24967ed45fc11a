-- `spelled` has written the vectors before the one at hand.
use mathlib.Core.Path.{◌≡◌}
use mathlib.Core.List.{◌++◌}
use lib.ListN.{take}
use Rattle.blocks.specs.Words.{rows_of_words}
use Rattle.lines.specs.Lines.{spelled}
use Rattle.lines.specs.Bytes.{line_room, bytes_of}
use Rattle.lines.proofs.Line.spelled.Given as goal

abbrev pub invariant-loop-w : goal.invariant-loop-w
invariant-loop-w l = bytes_of l.self ≡ take line_room (bytes_of l.initial.self ++ spelled l.n (take l.w-index (rows_of_words l.n l.words)))
