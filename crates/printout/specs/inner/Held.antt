-- What the code holds of an entry's action.
-- Assumes nothing.
use Rattle.std.specs.Prelude.{◌≡◌, List, ◌⊎◌, ℕ, ◌+◌, length, take, Result, Ok, Err}
use Rattle.questions.specs.Replies.{Reply}
use Rattle.gates.specs.Answers.{gate_action_number}
use Rattle.printout.specs.declared.EntryError.{EntryError}
use Rattle.printout.specs.declared.EntryError.TheVariants.{WrongRowCount, Gates}

-- the number of the refusal that stands on both lines. Open to users
abbrev pub entry_number : EntryError → ℕ
entry_number WrongRowCount = 2
entry_number (Gates e) = gate_action_number e

-- the action has another count of rows than 2n, which both calls refuse with 2
abbrev pub Miscounted : ℕ → Reply → Type 0
Miscounted n action = (action.figures.number ≡ 0) × (length action.words ≡ n + n → ⊥)

-- the action's own refusal; or that of both calls
abbrev pub RefusedBy : ℕ → Reply → ℕ → Type 0
RefusedBy n action number = ((number ≡ 0 → ⊥) × (action.figures.number ≡ number)) ⊎ ((number ≡ 2) × Miscounted n action)

-- 2n rows; or a refusal
unfoldable pub Held : ℕ → Reply → Result (List ℕ) EntryError → Type 0
Held n action (Ok rows) = (action.figures.number ≡ 0) × (action.words ≡ take (n + n) rows)
Held n action (Err e) = RefusedBy n action (entry_number e)
