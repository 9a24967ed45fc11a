-- What the values that a family is made from mean: whether it was made, a vector picked, the members beside a pair, and vectors behind others.
-- Assumes nothing.
use Rattle.std.specs.Prelude.{Option as Answer, Some, None, Bool, List, ◌++◌, map, ℕ, ◌-◌, get_or, take, drop, ◌≡◌}
use Rattle.std.proofs.Math.Option.{Option, none, some}
use Rattle.binar.specs.Rows.{val}
use Rattle.blocks.specs.Matrices.{times, matmul}
use Rattle.blocks.specs.Words.{rows_in_lem}
use Rattle.blocks.specs.inner.Lists.{without}
use Rattle.family.specs.Family.{cleared_of_pair}
use Rattle.family.specs.declared.Picked.{Picked}
use Rattle.family.specs.declared.space.Space.{Space}

-- what a construction gives where it was made, else none
abbrev pub if_made : {A B : Type 0} → Answer B → A → Option A
if_made (Some u) a = some a
if_made None a = none

-- a vector beside its form row
abbrev pub beside_row : List ℕ → ℕ → ℕ × ℕ
beside_row E v = (v, times v E)

abbrev pub picked_of : Answer Picked → Option (ℕ × ℕ)
picked_of (Some p) = some (val p.member, val p.row)
picked_of None = none

-- the members of a space
abbrev pub members : Space → List ℕ
members s = take s.d (rows_in_lem s.basis)

-- the form rows of a space are its members times the core
abbrev pub Fits : List ℕ → Space → Type 0
Fits E s = matmul (members s) E ≡ take s.d (rows_in_lem s.forms)

-- the members that are neither the first nor the j-th
unfoldable pub others_of : ℕ → List ℕ → List ℕ
others_of j B = without (j - 1) (drop 1 B)

-- these, cleared of the first and the j-th
unfoldable pub pair_rest_lem : (ℕ → ℕ → Bool) → ℕ → List ℕ → List ℕ
pair_rest_lem E j B = map (cleared_of_pair E (get_or B 0 0) (get_or B j 0)) (others_of j B)

-- vectors behind others
abbrev pub behind : List ℕ → List ℕ → List ℕ
behind front vs = front ++ vs
