-- When an answer is that of a record.
-- Assumes nothing.
use Rattle.std.specs.Prelude.{◌≡◌}
use Rattle.questions.specs.declared.Figures.{Figures}
use Rattle.replay.specs.declared.Case.{Case}

-- by its figures: the number of the refusal, the count, and the looks
abbrev pub Alike : Case → Figures → Type 0
Alike c a = (a.number ≡ c.number) × (a.count ≡ c.count) × (a.looks ≡ c.looks)
