-- `front` writes the entry number, a space and the name, by `cut_then`.
use mathlib.Core.List.{[], ◌∷◌}
use Rattle.lines.specs.Lines.{decimal, space}
use Rattle.lines.specs.Bytes.{line_room, bytes_of, name_bytes}
use Rattle.lines.proofs.Cuts.{cut_then}
use Rattle.lines.proofs.Line.front.Goals as goal

pub returns : goal.returns
returns c =
    let s = c.args in
    let d = bytes_of c.decimal.new.self in
    let n = bytes_of c.name.new.self in
    cut_then line_room (bytes_of s.self.now) d n (decimal s.i) (space ∷ name_bytes s.which) (rw c.from.ensures at c.decimal.ensures)
    (cut_then line_room d (bytes_of c.push.new.self) n (space ∷ []) (name_bytes s.which) c.push.ensures c.name.ensures)
