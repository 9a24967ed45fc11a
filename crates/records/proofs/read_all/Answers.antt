-- What was read is a part of the input, of at most so many bytes a record.
use Rattle.std.proofs.Common.{arith}
use Rattle.reading.proofs.Parts.{takes_none, takes_more}
use Rattle.records.proofs.read_all.Goals.{else-loop-test, then-loop-test+in-Err-CutShort}
use Rattle.records.proofs.read_all.Goals as goal

pub returns-in-Err-NoMore : goal.returns-in-Err-NoMore
returns-in-Err-NoMore g c = takes_more _ _ _ _ _ _ c.loop.invariant c.next_record.ensures.part (omega (arith, c.loop-test.true))

pub loop-preserved : goal.loop-preserved
loop-preserved g c = takes_more _ _ _ _ _ _ c.loop.invariant c.next_record.ensures.part (omega arith)

pub returns : goal.returns
returns g c =
    elim c.loop-test.branch [
      | else-loop-test w ↦ rw w.input-is (takes_more _ _ _ _ 0 _ c.loop.invariant (takes_none _ 0) (omega (arith, c.loop.auto.counter-end)))
      | then-loop-test+in-Err-CutShort w ↦ rw w.input-is (takes_more _ _ _ _ _ _ c.loop.invariant w.next_record.ensures.part (omega (arith, w.loop-test.true)))
    ]
