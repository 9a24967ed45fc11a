-- `lay` lays as many bytes as there are, or as have room, by `bytes_laid`.
use mathlib.Core.Path.{◌≡◌, ap, ◌∙◌}
use mathlib.Core.List.{List, ◌++◌}
use Prim.Native.Nat.{ℕ}
use lib.ListN.{take, drop}
use Rattle.lines.specs.Bytes.{bytes_of}
use Rattle.lines.proofs.Laid.{bytes_laid}
use Rattle.lines.proofs.Line.lay.Goals as goal

pub returns : goal.returns
returns c =
    let s = c.args in
    let bytes = bytes_of s.self.now in
    let k = c.min-k.result in
    let e : c.copy_from_slice.new.self ≡ take k bytes = rw c.as_slice-text.ensures at c.copy_from_slice.ensures.after in
    ap (λ (l : List ℕ). l ++ drop k s.out.now) e ∙ bytes_laid bytes s.out.now k (rw c.as_slice-text.ensures at c.min-k.ensures)
