-- `pass_members` puts each member as it is passed on.
use Rattle.spaces.proofs.pass_members.Given as goal

abbrev pub ghost-pass : goal.ghost-pass
ghost-pass a = λ x. x
