-- The greedy list (`clifford_to_transvections`): turns that undo an action, from the matrix I + F.
-- Assumes nothing.
use Rattle.std.specs.Prelude.{Bool, not, ℕ, zero, suc, ◌+◌, ◌*◌, eqb, length}
use mathlib.Core.List.{List, [], ◌∷◌, zip, reverse}
use Rattle.std.proofs.Math.Option.{Option, none, some}
use Rattle.blocks.specs.Matrices.{units}
use Rattle.blocks.specs.Words.{rows_of_words}
use Rattle.symplectic.specs.Turns.{pairing, followed, identity_plus}
use Rattle.symplectic.specs.Picks.{or_if, or_else, map_some, pick, add_both}
use Rattle.questions.specs.Replies.{Reply, listed, unless_refused, list_questions}

-- each row of I + F beside its basis vector
unfoldable pub beside_basis : ℕ → List ℕ → List (ℕ × ℕ)
beside_basis n F = zip (units (n + n)) (identity_plus n F)

-- row i's pairing with basis vector j
abbrev pub row_pairing : ℕ → ℕ × ℕ → ℕ × ℕ → Bool
row_pairing n i j = pairing n i.1 j.0

unfoldable pub first_nonzero : List ℕ → Option ℕ
first_nonzero [] = none
first_nonzero (v ∷ vs) = or_if (not (eqb v 0)) v (first_nonzero vs)

-- the lowest row that pairs to 1 with its own basis vector; else the sum of the first pair of rows i < j where row i's pairing with
-- basis vector j differs from row j's with basis vector i; else the lowest nonzero row
unfoldable pub next_transvection_lem : ℕ → List ℕ → Option ℕ
next_transvection_lem n F =
    or_else (map_some (λ a. a.1) (pick add_both (row_pairing n) (beside_basis n F))) (first_nonzero (identity_plus n F))

-- each row of F pairing to 1 with the vector taken gains it, and so on; at most as many steps as the first number says
abbrev pub record_next : ℕ → (List ℕ → List ℕ) → List ℕ → Option ℕ → List ℕ
record_next n go F none = []
record_next n go F (some v) = v ∷ go (followed n F v)

unfoldable pub recorded : ℕ → ℕ → List ℕ → List ℕ
recorded n zero F = []
recorded n (suc steps) F = record_next n (recorded n steps) F (next_transvection_lem n F)

-- the record is reversed at the end; the assertion of 4n + 2 is the length of the buffer
unfoldable pub greedy_list : ℕ → List ℕ → List ℕ
greedy_list n F = reverse (recorded n (4 * n + 2) F)

-- questions 1 to 5, with 4n + 2 output words
unfoldable pub greedy_reply : ℕ → List ℕ → List ℕ → Reply
greedy_reply n words out =
    let F = rows_of_words n words in unless_refused (list_questions n F (4 * n + 2) (length out)) out (listed n (greedy_list n F) 0 out)
