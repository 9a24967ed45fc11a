-- `pass_gram` puts each row without the dropped column.
use Rattle.binar.specs.Rows.{val}
use Rattle.spaces.specs.Levels.{shrunk}
use Rattle.spaces.proofs.pass_gram.Given as goal

abbrev pub ghost-pass : goal.ghost-pass
ghost-pass a = shrunk a.j (val a.h)
