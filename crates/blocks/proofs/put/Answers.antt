-- `put`: the word at i is set, and nothing past the end.
use mathlib.Core.Path.{ap, ◌∙◌}
use lib.ListN.{set}
use Rattle.blocks.specs.Words.{rows_of_words}
use Rattle.binar.proofs.Widths.{one_word}
use borrow.Author.Rules.{rules}
use Rattle.blocks.proofs.put.Goals as goal

pub returns-then-i-w : goal.returns-then-i-w
unfolding rows_of_words
returns-then-i-w c =
    let s = c.args in
    ap (set s.w.now s.i) (c.word.ensures ∙ one_word s.v (search rules))
