-- What the call promises of the part that comes back, and of number 14. Open to users.
-- Assumes nothing.
use Rattle.std.specs.Prelude.{◌≡◌, ◌⊎◌, List, ℕ, ◌+◌, ◌^◌, ◌≤◌, ◌<◌, length}
use Rattle.blocks.specs.Matrices.{All}
use Rattle.blocks.specs.Words.{rows_of_words}
use Rattle.symplectic.specs.Turns.{product}
use Rattle.questions.specs.Replies.{action_questions_lem}

-- a lent list plays the lent action (document 02: matches): each vector is free of bits from 2n up, and the product is the whole action
abbrev pub Plays : ℕ → List ℕ → List ℕ → Type 0
Plays n rows list = All (λ v. v < 2 ^ (n + n)) (rows_of_words n list) × (product n (rows_of_words n list) ≡ rows_of_words n rows)

-- one list has no more vectors than another
abbrev pub NoLonger : ℕ → List ℕ → List ℕ → Type 0
NoLonger n part list = length (rows_of_words n part) ≤ length (rows_of_words n list)

module _ (n : ℕ) (rows first second part : List ℕ) (number : ℕ) where
  -- of an answer: the part is one of the two lists, whole, and plays the action
  abbrev pub Played : Type 0
  Played = number ≡ 0 → ((part ≡ first) ⊎ (part ≡ second)) × Plays n rows part

  -- neither of the two that plays the action is shorter
  abbrev pub NeitherShorter : Type 0
  NeitherShorter = number ≡ 0 → (Plays n rows first → NoLonger n part first) × (Plays n rows second → NoLonger n part second)

  -- the first, where it plays the action and is no longer than the second
  abbrev pub FirstAtEqual : Type 0
  FirstAtEqual = number ≡ 0 → Plays n rows first → NoLonger n first second → part ≡ first

-- questions 1 to 4 are passed, and neither list plays the action
abbrev pub Unplayed : ℕ → List ℕ → List ℕ → List ℕ → Type 0
Unplayed n rows first second = (action_questions_lem n (rows_of_words n rows) ≡ 0) × ((Plays n rows first → ⊥) × (Plays n rows second → ⊥))

-- 14 exactly then
abbrev pub Neither : ℕ → List ℕ → List ℕ → List ℕ → ℕ → Type 0
Neither n rows first second number = (number ≡ 14 → Unplayed n rows first second) × (Unplayed n rows first second → number ≡ 14)
