-- `append` has written the bytes before the one at hand.
use mathlib.Core.Path.{◌≡◌}
use mathlib.Core.List.{◌++◌}
use lib.ListN.{take}
use Rattle.lines.specs.Bytes.{line_room, bytes_of}
use Rattle.lines.proofs.Line.append.Given as goal

abbrev pub invariant-loop-b : goal.invariant-loop-b
invariant-loop-b l = bytes_of l.self ≡ take line_room (bytes_of l.initial.self ++ take l.b-index l.b-items)
