-- `append` writes one byte more at each turn, by `cut_then`; those past the room are lost, by `cut_fit`.
use mathlib.Core.Path.{sym, ap, ◌∙◌}
use mathlib.Core.List.{List, [], ◌∷◌, ◌++◌}
use Prim.Native.Nat.{ℕ, ◌-◌, min}
use lib.ListN.{length, get_or, take}
use lib.Seq.{take_all}
use borrow.Author.Rules.{rules}
use Rattle.lines.specs.Bytes.{line_room, bytes_of}
use Rattle.lines.proofs.Cuts.{cut_then, cut_fit, none_more, next_taken}
use Rattle.lines.proofs.Line.append.Goals as goal

pub loop-b-init : goal.loop-b-init
loop-b-init c = none_more (bytes_of c.args.self.now) c.len.ensures.within

pub loop-b-preserved : goal.loop-b-preserved
loop-b-preserved c =
    let old = bytes_of c.args.self.now in
    let at = c.loop-b in
    let text = take c.min-m.result c.args.text.now in
    cut_then line_room old (bytes_of at.self) (bytes_of c.push.new.self) (take at.b-index text) (get_or text at.b-index 0 ∷ []) at.invariant c.push.ensures
    ∙ ap (λ (l : List ℕ). take line_room (old ++ l)) (sym (next_taken text at.b-index (search rules)))

pub returns : goal.returns
returns c =
    let s = c.args in
    let old = bytes_of s.self.now in
    let at = c.loop-b in
    let m = c.min-m in
    at.invariant ∙ ap (λ (l : List ℕ). take line_room (old ++ l)) (take_all at.b-index (take m.result s.text.now) c.loop-b-test.false)
    ∙ cut_fit old s.text.now m.result (m.ensures ∙ ap (λ (k : ℕ). min (length s.text.now) (line_room - k)) c.len.ensures.counted)
