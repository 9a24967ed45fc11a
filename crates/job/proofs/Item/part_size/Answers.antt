-- `part_size` multiplies by the size of an item of the entry's kind.
use mathlib.Core.Path.{sym}
use Rattle.job.specs.Answers.{entry_of}
use Rattle.job.proofs.Entries.{part_rows, part_gates, rows_kind, gates_kind}
use Rattle.job.proofs.Item.part_size.Goals as goal

pub returns-in-Rows : goal.returns-in-Rows
returns-in-Rows c = let e = c.args.self in sym (part_rows (entry_of e) (rows_kind e.kind c.in-Rows.ensures))

pub returns-in-Gates : goal.returns-in-Gates
returns-in-Gates c = let e = c.args.self in sym (part_gates (entry_of e) (gates_kind e.kind c.in-Gates.ensures))
