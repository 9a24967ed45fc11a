-- What the answer of a rebuild says: document 01's number, or how many rows stand in the lent words. Open to users.
-- Assumes nothing.
use Rattle.std.specs.Prelude.{ℕ, Result}
use Rattle.questions.specs.declared.Figures.{Figures}
use Rattle.questions.specs.Answers.{answer_figures}
use Rattle.rebuild.specs.declared.RebuildError.{RebuildError}
use Rattle.rebuild.specs.declared.RebuildError.TheVariants.{TooManyQubits, WrongRowCount, VectorTooWide}

abbrev pub rebuild_number : RebuildError → ℕ
rebuild_number TooManyQubits = 1
rebuild_number WrongRowCount = 2
rebuild_number VectorTooWide = 8

abbrev pub figures_of_lem : Result ℕ RebuildError → Figures
figures_of_lem r = answer_figures rebuild_number r
