-- `pass_members` puts each member as it is passed on.
use Rattle.spaces.specs.Levels.{members_passed}
use Rattle.spaces.proofs.pass_members.Goals as goal

pub returns : goal.returns
unfolding members_passed
returns c = c.pass.ensures
