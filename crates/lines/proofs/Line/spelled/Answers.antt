-- `spelled` writes one vector more at each turn, by `spelled_next`.
use mathlib.Core.Path.{◌≡◌, sym, ap, ◌∙◌}
use mathlib.Core.List.{List, [], ◌∷◌, ◌++◌}
use Prim.Native.Nat.{ℕ, ◌≤◌, ◌<◌}
use native.Mathlib.Omega.{arith}
use lib.ListN.{length, get_or, take}
use lib.Seq.{take_all}
use Rattle.binar.specs.Rows.{val}
use Rattle.blocks.specs.Words.{rows_of_words}
use Rattle.blocks.proofs.Values.{rows_count, rows_word}
use Rattle.letters.specs.Letters.{spelling}
use Rattle.lines.specs.Lines.{spelled, space}
use Rattle.lines.specs.Bytes.{line_room, bytes_of}
use Rattle.lines.proofs.Cuts.{bytes_length, cut_then, none_more}
use Rattle.lines.proofs.Spelling.{spelled_next}
use borrow.Author.Rules.{rules}
use Rattle.lines.proofs.Line.spelled.Goals as goal

pub loop-w-init : goal.loop-w-init
unfolding spelled
loop-w-init c = let l = c.args.self.now in none_more (bytes_of l) (omega (arith, bytes_length l (search rules)))

pub loop-w-preserved : goal.loop-w-preserved
loop-w-preserved c =
    let s = c.args in
    let at = c.loop-w in
    let rows = rows_of_words s.n s.words.now in
    let v = get_or rows at.w-index 0 in
    let b = bytes_of s.self.now in
    let p = bytes_of c.push.new.self in
    let r = bytes_of c.letters.new.self in
    let inside : at.w-index < length rows = omega (arith, rows_count s.n s.words.now) in
    let row : val c.from.result ≡ v = c.from.ensures ∙ sym (rows_word s.n s.words.now at.w-index) in
    let one : r ≡ take line_room (bytes_of at.self ++ (space ∷ spelling s.n v)) = cut_then line_room (bytes_of at.self) p r (space ∷ []) (spelling s.n v) c.push.ensures (c.letters.ensures ∙ ap (λ (u : ℕ). take line_room (p ++ spelling s.n u)) row) in
    cut_then line_room b (bytes_of at.self) r (spelled s.n (take at.w-index rows)) (space ∷ spelling s.n v) at.invariant one
    ∙ ap (λ (l : List ℕ). take line_room (b ++ l)) (sym (spelled_next s.n at.w-index rows inside))

pub returns : goal.returns
returns c =
    let s = c.args in
    let at = c.loop-w in
    let rows = rows_of_words s.n s.words.now in
    let past : length rows ≤ at.w-index = omega (arith, rows_count s.n s.words.now) in
    at.invariant ∙ ap (λ (l : List ℕ). take line_room (bytes_of s.self.now ++ spelled s.n l)) (take_all at.w-index rows past)
