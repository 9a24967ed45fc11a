-- `numbers` writes four fields, one behind another, by `cut_next`.
use mathlib.Core.List.{◌++◌}
use Rattle.lines.specs.Lines.{field}
use Rattle.lines.specs.Bytes.{line_room, bytes_of}
use Rattle.lines.proofs.Cuts.{cut_next}
use Rattle.lines.proofs.Line.numbers.Goals as goal

pub returns : goal.returns
returns c =
    let s = c.args in
    let figures = s.figures in
    let x = bytes_of s.self.now ++ field figures.number in
    let y = x ++ field figures.count in
    let z = y ++ field s.load in
    cut_next line_room z (bytes_of c.field-3.new.self) (bytes_of c.field-4.new.self) (field figures.looks)
    (cut_next line_room y (bytes_of c.field-2.new.self) (bytes_of c.field-3.new.self) (field s.load)
    (cut_next line_room x (bytes_of c.field.new.self) (bytes_of c.field-2.new.self) (field figures.count) (rw c.from.ensures at c.field.ensures) (rw c.from-2.ensures at c.field-2.ensures))
    c.field-3.ensures)
    (rw c.from-3.ensures at c.field-4.ensures)
