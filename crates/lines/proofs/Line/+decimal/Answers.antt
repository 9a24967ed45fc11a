-- `decimal` writes the tens, then the last digit, by `decimal_digit` and `decimal_high`.
use mathlib.Core.Path.{sym, ap, ◌∙◌}
use mathlib.Core.List.{List, [], ◌∷◌, ◌++◌}
use Prim.Native.Nat.{ℕ, ◌+◌, ◌/◌, ◌%◌}
use lib.ListN.{take}
use Rattle.lines.specs.Lines.{decimal}
use Rattle.lines.specs.Bytes.{line_room, bytes_of}
use Rattle.lines.proofs.Decimals.{decimal_low, decimal_high}
use Rattle.lines.proofs.Cuts.{cut_then}
use Rattle.lines.proofs.Line.+decimal.Goals as goal

pub returns-then-v-lt10 : goal.returns-then-v-lt10
returns-then-v-lt10 t c =
    let s = c.args in
    c.push.ensures ∙ ap (λ (x : List ℕ). take line_room (bytes_of s.self.now ++ x)) (sym (decimal_low s.v c.if-v-lt10.true))

pub returns : goal.returns
returns t c =
    let s = c.args in
    cut_then line_room (bytes_of s.self.now) (bytes_of c.decimal.new.self) (bytes_of c.push-2.new.self) (decimal (s.v / 10)) ((48 + s.v % 10) ∷ []) c.decimal.ensures c.push-2.ensures
    ∙ ap (λ (x : List ℕ). take line_room (bytes_of s.self.now ++ x)) (sym (decimal_high s.v c.if-v-lt10.false))
