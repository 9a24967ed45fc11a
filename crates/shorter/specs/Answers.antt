-- What the choice says: its number, and which list is played. Open to users.
-- Assumes nothing.
use Rattle.std.specs.Prelude.{ℕ, Result, Ok, Err}
use Rattle.questions.specs.Answers.{action_number}
use Rattle.shorter.specs.declared.Chosen.{Chosen}
use Rattle.shorter.specs.declared.Choice.{Choice}
use Rattle.shorter.specs.declared.Choice.TheVariants.{First, Second}
use Rattle.shorter.specs.declared.ShorterError.{ShorterError}
use Rattle.shorter.specs.declared.ShorterError.TheVariants.{Action, NeitherMatches}
use Rattle.shorter.specs.Shorter.{chosen, nothing_chosen}

abbrev pub shorter_number : ShorterError → ℕ
shorter_number (Action e) = action_number e
shorter_number NeitherMatches = 14

abbrev pub chosen_of : Result Choice ShorterError → Chosen
chosen_of (Ok First) = chosen 1
chosen_of (Ok Second) = chosen 2
chosen_of (Err e) = nothing_chosen (shorter_number e)
