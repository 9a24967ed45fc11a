-- `pass_gram` puts each row without the dropped column.
use Rattle.spaces.specs.Levels.{gram_at, gram_passed}
use Rattle.spaces.proofs.pass_gram.Goals as goal

pub returns : goal.returns
unfolding gram_at gram_passed
returns c = c.pass.ensures
