-- `file_line` writes its parts one behind another, by `cut_next`; they fit, by `file_fits`.
use mathlib.Core.Path.{◌≡◌, ap, ◌∙◌}
use mathlib.Core.List.{List, [], ◌∷◌, ◌++◌}
use Prim.Native.Nat.{ℕ}
use lib.ListN.{take}
use lib.Seq.{take_all}
use borrow.Author.Rules.{rules}
use Rattle.lines.specs.Lines.{field, newline, file_word, file_line_lem}
use Rattle.lines.specs.Bytes.{line_room, bytes_of}
use Rattle.lines.proofs.Cuts.{cut_next}
use Rattle.lines.proofs.Fits.{file_fits}
use native.Mathlib.Omega.{arith}
use Rattle.lines.proofs.file_line.Goals as goal

pub returns : goal.returns
unfolding file_line_lem
returns c =
    let k = c.args.number in
    let a = bytes_of c.append.new.self in
    let e : a ≡ take line_room file_word = c.append.ensures ∙ ap (λ (l : List ℕ). take line_room (l ++ file_word)) c.new-l.ensures in
    cut_next line_room (file_word ++ field k) (bytes_of c.field.new.self) (bytes_of c.push.new.self) (newline ∷ [])
    (cut_next line_room file_word a (bytes_of c.field.new.self) (field k) e (rw c.from.ensures at c.field.ensures))
    c.push.ensures
    ∙ take_all line_room (file_line_lem k) (omega (arith, file_fits k (search rules)))
