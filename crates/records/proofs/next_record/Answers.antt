-- A record is a part of the input: its header, and then what stands behind it.
use Rattle.std.proofs.Common.{ℕ, ◌≤◌, List, take, Option, arith, rules}
use Rattle.std.specs.Io.KnownBytes.{Consumes}
use Rattle.reading.specs.Parts.{TakesUpTo}
use Rattle.reading.proofs.Parts.{takes_read, takes_more}
use Rattle.records.proofs.next_record.Goals as goal

head_and_rest : (a b c : Option (List ℕ)) (head rest : List ℕ) (m n : ℕ) → Consumes a b (take m head) → m ≤ 64 → Consumes b c (take n rest) → n ≤ 4096 → TakesUpTo a c 4160
head_and_rest a b c head rest m n first short second fits =
    takes_more a b c 64 4096 4160 (takes_read a b head m 64 first short) (takes_read b c rest n 4096 second fits) (omega arith)

pub returns-in_err-whole-2-clause-part : goal.returns-in_err-whole-2-clause-part
returns-in_err-whole-2-clause-part g c = head_and_rest _ _ _ _ _ _ _ c.read_full-got.ensures.bytes (search rules) c.read_full.ensures.bytes (search rules)

pub returns-in-Some-clause-part : goal.returns-in-Some-clause-part
returns-in-Some-clause-part g c = head_and_rest _ _ _ _ _ _ _ c.read_full-got.ensures.bytes (search rules) c.read_full.ensures.bytes (search rules)

pub returns-in-None-clause-part : goal.returns-in-None-clause-part
returns-in-None-clause-part g c = head_and_rest _ _ _ _ _ _ _ c.read_full-got.ensures.bytes (search rules) c.read_full.ensures.bytes (search rules)
