-- `letters` has written the letters before that of qubit `q`.
use mathlib.Core.Path.{◌≡◌}
use mathlib.Core.List.{◌++◌}
use Prim.Native.Nat.{◌≤◌}
use lib.ListN.{take}
use Rattle.binar.specs.Rows.{val}
use Rattle.letters.specs.Letters.{spelling}
use Rattle.lines.specs.Bytes.{line_room, bytes_of}
use Rattle.lines.proofs.Line.letters.Given as goal

abbrev pub invariant-loop-q : goal.invariant-loop-q
invariant-loop-q l = (l.q ≤ l.m) × (bytes_of l.self ≡ take line_room (bytes_of l.initial.self ++ take l.q (spelling l.n (val l.v))))
