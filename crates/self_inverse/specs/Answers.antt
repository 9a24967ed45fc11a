-- What the answer says: its number, and how many vectors stand in the lent words.
-- Assumes nothing.
use Rattle.std.specs.Prelude.{ℕ, Result}
use Rattle.questions.specs.declared.Figures.{Figures}
use Rattle.questions.specs.Answers.{listing_number, answer_figures}
use Rattle.self_inverse.specs.declared.SelfInverseError.{SelfInverseError}
use Rattle.self_inverse.specs.declared.SelfInverseError.TheVariants.{Listing, NotSelfInverse}

-- these are open to users
abbrev pub self_inverse_number : SelfInverseError → ℕ
self_inverse_number (Listing e) = listing_number e
self_inverse_number NotSelfInverse = 17

abbrev pub figures_of_lem : Result ℕ SelfInverseError → Figures
figures_of_lem r = answer_figures self_inverse_number r
