-- Records counted.
-- Assumes nothing.
use Rattle.std.specs.Prelude.{Bool, true, false, ℕ, ◌+◌, ◌-◌, ◌^◌, min}
use Rattle.records.specs.declared.score.Counts.{Counts}

-- one more, as far as 64 bits go
abbrev pub one_more : ℕ → ℕ
one_more x = min (x + 1) (2 ^ 64 - 1)

-- the counts of a kind after a record that agrees, or differs
abbrev pub counted_in : Counts → Bool → Counts
counted_in t true = record { agree = one_more t.agree; differ = t.differ }
counted_in t false = record { agree = t.agree; differ = one_more t.differ }
