-- `answer_line` prints what the call of its name answers and leaves, by `line_left`.
use mathlib.Core.Path.{◌∙◌}
use Prim.Native.Nat.{◌+◌}
use lib.ListN.{take}
use borrow.Author.Rules.{rules}
use Rattle.printout.proofs.Printing.{line_left}
use Rattle.printout.proofs.answer_line.Goals as goal

pub returns : goal.returns
returns c =
    let s = c.args in
    let call = c.call-figures in
    let rows = take (s.n + s.n) s.rows in
    c.entry_line.ensures
    ∙ line_left s.n s.i s.which rows (search rules) (search rules) call.result call.new.out (search rules) call.auto.out call.ensures.answered call.ensures.left
