-- What the values of the code mean: the rows of a core, what a search has come to, and the basis that it found.
-- Assumes nothing.
use Rattle.std.specs.Prelude.{List, [], ℕ, take}
use Rattle.binar.specs.Rows.{width}
use Rattle.blocks.specs.Words.{rows_in_lem}
use Rattle.triangular.specs.declared.Ending.{Ending}
use Rattle.triangular.specs.declared.Ending.TheVariants.{Found, Failed, Spent}
use Rattle.triangular.specs.Search.{found, failed, Verdict, ended, spent}

-- the rows of a core in lent words, of which no more count than a row has columns
unfoldable pub core_in : List ℕ → List ℕ
core_in ws = take width (rows_in_lem ws)

-- an ending, the draws taken by then, and the basis where one was found
unfoldable pub verdict_of : Ending → ℕ → List ℕ → Verdict
verdict_of Found looks ps = ended (found ps looks)
verdict_of Failed looks ps = ended (failed looks)
verdict_of Spent looks ps = spent looks

-- the basis that a search found; else none
unfoldable pub basis_found : Verdict → List ℕ
basis_found (ended (found ps looks)) = ps
basis_found (ended (failed looks)) = []
basis_found (spent looks) = []
