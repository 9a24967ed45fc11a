-- What the searches of the code find, from a row on. Only private contracts use these.
-- Assumes nothing.
use Rattle.std.specs.Prelude.{Option as Answer, Some, None, List, ℕ, ◌^◌, get_or, drop}
use Rattle.std.proofs.Math.Option.{Option, none, some}
use Rattle.binar.specs.declared.Row.{Row}
use Rattle.binar.specs.Rows.{val}
use Rattle.binar.specs.Bits.{◌⊕◌}
use Rattle.symplectic.specs.Picks.{map_some, first_one_lem, uneven_with_lem, first_uneven_lem, add_both}
use Rattle.transvection.specs.Greedy.{beside_basis, row_pairing}

-- the vector that a search finds
abbrev pub chosen : Answer Row → Option ℕ
chosen (Some row) = some (val row)
chosen None = none

-- row i of I + F
abbrev pub row_at : List ℕ → ℕ → ℕ
row_at F i = get_or F i 0 ⊕ 2 ^ i

-- the lowest row, from row i on, that pairs to 1 with its own basis vector
unfoldable pub one_from : ℕ → List ℕ → ℕ → Option ℕ
one_from n F i = map_some (λ a. a.1) (first_one_lem add_both (row_pairing n) (drop i (beside_basis n F)))

-- the sum of row i and the first row, from row j on, with which it makes a pair of the greedy rule
unfoldable pub with_from : ℕ → List ℕ → ℕ → ℕ → Option ℕ
with_from n F i j =
    let rows = beside_basis n F in map_some (λ a. a.1) (uneven_with_lem add_both (row_pairing n) (get_or rows i (0, 0)) (drop j rows))

-- the sum of the first such pair, from row i on
unfoldable pub pair_from : ℕ → List ℕ → ℕ → Option ℕ
pair_from n F i = map_some (λ a. a.1) (first_uneven_lem add_both (row_pairing n) (drop i (beside_basis n F)))
