-- What the values of the code mean: the bytes of a line and the bytes of a name; and a line's bytes laid into lent bytes.
-- Assumes nothing.
use Rattle.std.specs.Prelude.{List, ◌++◌, ℕ, length, take, drop}
use Rattle.lines.specs.Lines.{min_name, greedy_name}
use Rattle.lines.specs.declared.Line.{Line}
use Rattle.lines.specs.declared.Name.{Name}
use Rattle.lines.specs.declared.Name.TheVariants.{Min, Greedy}

-- how many bytes a line has room for. A plain number, open to users
abbrev pub line_room : ℕ
line_room = 4608

-- a count above the room means the room
unfoldable pub bytes_of : Line → List ℕ
bytes_of l = take l.count l.bytes

-- lent bytes once a line's have been laid from their start: the others are unchanged, and those that find no room are lost
unfoldable pub laid_bytes : List ℕ → List ℕ → List ℕ
laid_bytes bytes out = take (length out) (bytes ++ drop (length bytes) out)

abbrev pub name_bytes : Name → List ℕ
name_bytes Min = min_name
name_bytes Greedy = greedy_name
