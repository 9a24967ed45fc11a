-- `field` writes a space, then the number, by `cut_then`.
use mathlib.Core.List.{[], ◌∷◌}
use Rattle.lines.specs.Lines.{decimal, space}
use Rattle.lines.specs.Bytes.{line_room, bytes_of}
use Rattle.lines.proofs.Cuts.{cut_then}
use Rattle.lines.proofs.Line.field.Goals as goal

pub returns : goal.returns
returns c =
    let s = c.args in
    cut_then line_room (bytes_of s.self.now) (bytes_of c.push.new.self) (bytes_of c.decimal.new.self) (space ∷ []) (decimal s.v) c.push.ensures c.decimal.ensures
