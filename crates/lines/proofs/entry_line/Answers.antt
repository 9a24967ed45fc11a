-- `entry_line` writes the parts of a line one behind another, by `cut_four` and `cut_next`.
use mathlib.Core.Path.{◌≡◌, sym, ap, ◌∙◌}
use mathlib.Core.List.{List, [], ◌∷◌, ◌++◌}
use Prim.Native.Nat.{ℕ}
use native.Mathlib.Omega.{arith}
use lib.ListN.{take, length-take}
use lib.Seq.{length-take-le}
use Rattle.blocks.specs.Words.{rows_of_words}
use Rattle.blocks.proofs.Values.{take_counted, rows_take}
use Rattle.lines.specs.Lines.{decimal, field, load, space, newline, spelled, line}
use Rattle.lines.specs.Bytes.{line_room, bytes_of, name_bytes}
use Rattle.lines.proofs.Cuts.{cut_next, cut_four}
use Rattle.lines.proofs.entry_line.Goals as goal

pub slice_bounds-vs-end : goal.slice_bounds-vs-end
slice_bounds-vs-end c = sym (length-take-le c.min-k.result c.args.words.now (omega (arith, c.min-k.ensures)))

pub returns : goal.returns
unfolding line
returns c =
    let s = c.args in
    let w = s.words.now in
    let figures = s.figures in
    let vs = take figures.count (rows_of_words s.n w) in
    let k = c.min-k in
    let front : take k.result w ≡ take figures.count w = ap (λ (j : ℕ). take j w) (k.ensures ∙ sym (length-take figures.count w)) ∙ take_counted figures.count w in
    let same : rows_of_words s.n (take k.result w) ≡ vs = ap (rows_of_words s.n) front ∙ sym (rows_take s.n figures.count w) in
    let x = decimal s.i ++ (space ∷ name_bytes s.which) in
    let f = bytes_of c.front.new.self in
    let h = bytes_of c.numbers.new.self in
    let l = bytes_of c.spelled.new.self in
    let t = load s.n vs in
    let y = x ++ field figures.number ++ field figures.count ++ field t ++ field figures.looks in
    let known : c.load.result ≡ t = c.load.ensures ∙ ap (load s.n) same in
    let p : h ≡ take line_room y = cut_four line_room x f h (field figures.number) (field figures.count) (field t) (field figures.looks) (c.front.ensures ∙ ap (λ (e : List ℕ). take line_room (e ++ x)) c.new-l.ensures)
    (c.numbers.ensures ∙ ap (λ (k : ℕ). take line_room (f ++ field figures.number ++ field figures.count ++ field k ++ field figures.looks)) known) in
    let q : l ≡ take line_room (y ++ spelled s.n vs) = cut_next line_room y h l (spelled s.n vs) p (c.spelled.ensures ∙ ap (λ (v : List ℕ). take line_room (h ++ spelled s.n v)) same) in
    cut_next line_room (y ++ spelled s.n vs) l (bytes_of c.push.new.self) (newline ∷ []) q c.push.ensures
