-- What a search keeps in lent rows, level by level: the members or the Gram matrix of a space, and behind them those of the space that a draw passes on.
-- Assumes nothing.
use Rattle.std.specs.Prelude.{List, [], ◌∷◌, ℕ, zero, suc, ◌+◌, get_or, take, drop}
use Rattle.blocks.specs.Matrices.{times}

-- the rows of all levels from dimension d down
unfoldable pub levels : ℕ → ℕ
levels zero = 0
levels (suc d) = suc d + suc d + levels d

-- the draws of a search that found, one of each level: the coefficients behind the members, times these
unfoldable pub found_in : ℕ → List ℕ → List ℕ
found_in zero w = []
found_in (suc d) w = times (get_or w (suc d) 0) (take (suc d) w) ∷ found_in d (drop (suc d + suc d) w)
