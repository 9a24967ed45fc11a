-- A read behind the file's end takes at most one byte more, where there was room for it.
use Rattle.std.proofs.Common.{arith, rules}
use Rattle.reading.proofs.Parts.{takes_read, takes_more}
use Rattle.pages.proofs.read_file.Goals as goal

pub returns-in_err-at_end-clause-part : goal.returns-in_err-at_end-clause-part
returns-in_err-at_end-clause-part g c =
    takes_more _ _ _ c.read_full-n.result 1 _ (takes_read _ _ _ _ _ c.read_full-n.ensures.bytes (omega arith)) c.at_end.ensures.part (search rules)
