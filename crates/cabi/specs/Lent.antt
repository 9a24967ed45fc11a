-- The figures that a caller reads off the number that a call returns and the lent numbers.
-- Assumes nothing.
use Rattle.std.specs.Prelude.{cond, ◌≡◌, List, ℕ, zero, suc, ◌<◌, eqb, length}
use Rattle.questions.specs.declared.Figures.{Figures}
use Rattle.questions.specs.Answers.{lent_number}
use Rattle.questions.specs.Replies.{Reply}
use Rattle.memory.specs.Entries.{entry_size}

-- the figures read off a returned number and the lent numbers: a refusal's count is 0, and its looks are 0, at 6 the budget
unfoldable pub read_figures : ℕ → ℕ → ℕ → ℕ → Figures
read_figures budget zero count looks = record { number = 0; count = count; looks = looks }
read_figures budget (suc k) count looks = record { number = suc k; count = 0; looks = cond (eqb (suc k) 6) budget 0 }

-- with fewer words than an entry takes, a call that lends a memory returns, leaves and tells what document 01's call does, and the memory is as it was
abbrev pub PlainlyLent : Reply → List ℕ → List ℕ → List ℕ → ℕ → ℕ → ℕ → ℕ → ℕ → Type 0
PlainlyLent plain memory memoryAfter left r countBefore count looksBefore looks =
    length memory < entry_size
    → (r ≡ plain.figures.number) × ((left ≡ plain.words) × ((memoryAfter ≡ memory)
    × ((count ≡ lent_number r plain.figures.count countBefore) × (looks ≡ lent_number r plain.figures.looks looksBefore))))
