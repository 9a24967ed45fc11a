-- `letters` writes one letter more at each turn, by `spelling_at`; those past the room are lost, by `cut_fit`.
use mathlib.Core.Path.{◌≡◌, sym, ap, ap₂, ◌∙◌}
use mathlib.Core.List.{List, [], ◌∷◌, ◌++◌}
use Prim.Native.Nat.{ℕ, ◌<◌}
use native.Mathlib.Omega.{arith}
use lib.ListN.{get_or, take}
use Rattle.binar.specs.Bits.{bit}
use Rattle.binar.specs.Rows.{val}
use Rattle.letters.specs.Letters.{letter, byte, spelling}
use Rattle.letters.proofs.Spelling.{spelling_length, spelling_at}
use Rattle.lines.specs.Bytes.{line_room, bytes_of}
use Rattle.lines.proofs.Cuts.{cut_then, cut_fit, none_more, next_taken}
use borrow.Author.Rules.{rules}
use Rattle.lines.proofs.Line.letters.Goals as goal

pub loop-q-init : goal.loop-q-init
loop-q-init c = (search rules, none_more (bytes_of c.args.self.now) c.len.ensures.within)

pub loop-q-preserved : goal.loop-q-preserved
loop-q-preserved c =
    let s = c.args in
    let old = bytes_of s.self.now in
    let at = c.loop-q in
    let text = spelling s.n (val s.v) in
    let inside : at.q < s.n = omega (arith, c.min-m.ensures, c.loop-q-test.true) in
    let x = c.bit.ensures in
    let z = c.bit-in-loop-q.ensures ∙ ap (bit at.q) c.shift_down-high.ensures in
    let b : c.from.result ≡ get_or text at.q 0 = c.from.ensures ∙ ap byte (c.of_bits.ensures ∙ ap₂ letter x z) ∙ spelling_at s.n (val s.v) at.q inside in (
      search rules,
      cut_then line_room old (bytes_of at.self) (bytes_of c.push.new.self) (take at.q text) (get_or text at.q 0 ∷ []) at.invariant.1 (c.push.ensures ∙ ap (λ (k : ℕ). take line_room (bytes_of at.self ++ (k ∷ []))) b)
          ∙ ap (λ (l : List ℕ). take line_room (old ++ l)) (sym (next_taken text at.q (omega (arith, spelling_length s.n (val s.v))))),
    )

pub returns : goal.returns
returns c =
    let s = c.args in
    let at = c.loop-q in
    let text = spelling s.n (val s.v) in
    at.invariant.1 ∙ cut_fit (bytes_of s.self.now) text at.q (omega (arith, spelling_length s.n (val s.v), c.min-m.ensures, c.len.ensures.counted))
