-- The search with a memory of spaces that failed (document 02, item 6): one that it holds fails without a draw, one that fails is entered while there is room.
-- Assumes nothing.
use Rattle.std.specs.Prelude.{Bool, true, false, ◌&&◌, ◌||◌, List, [], ◌∷◌, ◌++◌, map, ℕ, zero, suc, ◌-◌, ◌^◌, eqb, leb, ltb, length}
use Rattle.blocks.specs.Matrices.{times, units}
use Rattle.symplectic.specs.Matches.{same_rows}
use Rattle.reduction.specs.Columns.{rows, row_reduce_with_transform_lem}
use Rattle.residue.specs.Residue.{form}
use Rattle.triangular.specs.Spaces.{complement, is_alternating_lem}
use Rattle.triangular.specs.Search.{Outcome, found, failed}

-- ---- the memory

-- a space that failed: its dimension, its reduced basis, and how many draws had been taken when that was known
pub record Entry : Type 0 where
  pub dimension : ℕ
  pub basis : List ℕ
  pub looks : ℕ

-- the reduced basis of a space of m columns: its members reduced by these, as many rows
unfoldable pub entry_basis : ℕ → List ℕ → List ℕ
entry_basis m bs = map (λ a. a.0) (rows (row_reduce_with_transform_lem m bs))

-- whether an entry is the space of dimension d with this reduced basis; whether one of the entries is
unfoldable pub is_space : ℕ → List ℕ → Entry → Bool
is_space d rs e = eqb e.dimension d && same_rows e.basis rs

unfoldable pub holds : ℕ → List ℕ → List Entry → Bool
holds d rs [] = false
holds d rs (e ∷ M) = is_space d rs e || holds d rs M

abbrev pub enter_if : Bool → Entry → List Entry → List Entry
enter_if true e M = M ++ (e ∷ [])
enter_if false e M = M

-- one entry more, behind the others, while there are fewer than there is room for
unfoldable pub enter : ℕ → Entry → List Entry → List Entry
enter room e M = enter_if (ltb (length M) room) e M

-- ---- the search

-- what a search gives: document 01's outcome, and the memory as it then is
pub record Remembered : Type 0 where
  pub outcome : Outcome
  pub memory : List Entry

-- a space that is held, or is alternating, fails without a draw
abbrev pub unless_fails : Bool → (ℕ → List Entry → Remembered) → ℕ → List Entry → Remembered
unless_fails true go looks M = record { outcome = failed looks; memory = M }
unless_fails false go looks M = go looks M

-- a space of dimension d with reduced basis rs is entered once it is known to fail
abbrev pub noted : ℕ → ℕ → List ℕ → Outcome → List Entry → Remembered
noted room d rs (found ps looks) M = record { outcome = found ps looks; memory = M }
noted room d rs (failed looks) M = record { outcome = failed looks; memory = enter room (record { dimension = d; basis = rs; looks = looks }) M }

-- after the rest that a draw p passes on: the first draw whose rest succeeds wins
abbrev pub after_rest_with : ℕ → (ℕ → List Entry → Remembered) → Outcome → List Entry → Remembered
after_rest_with p next (found ps looks) M = record { outcome = found (p ∷ ps) looks; memory = M }
after_rest_with p next (failed looks) M = next looks M

-- one draw of p, accepted or not
abbrev pub draw_with : Bool → ℕ → (ℕ → List Entry → Remembered) → (ℕ → List Entry → Remembered) → ℕ → List Entry → Remembered
draw_with true p rest next looks M = let r = rest (suc looks) M in after_rest_with p next r.outcome r.memory
draw_with false p rest next looks M = next (suc looks) M

module _ (E : ℕ → ℕ → Bool) (m room : ℕ) where
  -- k draws from coefficient c on, as in document 01's search
  unfoldable pub draws_with : (List ℕ → ℕ → List Entry → Remembered) → List ℕ → ℕ → ℕ → ℕ → List Entry → Remembered
  draws_with sub bs zero c looks M = record { outcome = failed looks; memory = M }
  draws_with sub bs (suc k) c looks M =
      let p = times c bs in draw_with (E p p) p (sub (complement (E p) bs)) (draws_with sub bs k (suc c)) looks M

  -- a space of dimension d and of m columns, with room for so many entries; an empty one succeeds and is never looked up; any other is looked up before anything is asked of it
  unfoldable pub search_with : ℕ → List ℕ → ℕ → List Entry → Remembered
  search_with zero bs looks M = record { outcome = found [] looks; memory = M }
  search_with (suc d) bs looks M =
      let rs = entry_basis m bs in
      let go = unless_fails (is_alternating_lem E bs) (draws_with (search_with d) bs (2 ^ suc d - 1) 1) in
      unless_fails (holds (suc d) rs M) (λ n N. let r = go n N in noted room (suc d) rs r.outcome r.memory) looks M

-- on a core E: all rows with as many columns as it has rows, begun from unit rows, and with nothing in the memory
abbrev pub searched_core : List ℕ → ℕ → Remembered
searched_core E room = let r = length E in search_with (form E) r room r (units r) 0 []

-- ---- the budget, laid over it as over document 01's search

abbrev pub keep_if : Bool → Entry → List Entry → List Entry
keep_if true e M = e ∷ M
keep_if false e M = M

-- the entries that were made without a look beyond the budget
unfoldable pub known_within : ℕ → List Entry → List Entry
known_within budget [] = []
known_within budget (e ∷ M) = keep_if (leb e.looks budget) e (known_within budget M)
