-- The fixed space of an action (`clifford_fixed_space`): all v with vF = v, by its reduced basis.
-- Assumes nothing.
use Rattle.std.specs.Prelude.{List, map, ℕ, ◌+◌, length}
use Rattle.blocks.specs.Words.{rows_of_words}
use Rattle.symplectic.specs.Turns.{identity_plus}
use Rattle.questions.specs.Replies.{Reply, listed, unless_refused, list_questions}
use Rattle.reduction.specs.Columns.{row_reduce_with_transform_lem}

-- a basis of all u with uM = 0, for a matrix of m columns: the rows of the transform beside the rows that became zero
unfoldable pub kernel : ℕ → List ℕ → List ℕ
kernel m M = map (λ a. a.1) (row_reduce_with_transform_lem m M).down

-- the reduced basis of what the rows of a matrix of m columns span: the rows that did not become zero
unfoldable pub reduced_basis : ℕ → List ℕ → List ℕ
reduced_basis m M = map (λ a. a.0) (row_reduce_with_transform_lem m M).up

-- all v with vF = v, that is, v(I + F) = 0
unfoldable pub fixed_space_lem : ℕ → List ℕ → List ℕ
fixed_space_lem n F = reduced_basis (n + n) (kernel (n + n) (identity_plus n F))

-- questions 1 to 5, with 2n output words
unfoldable pub fixed_reply : ℕ → List ℕ → List ℕ → Reply
fixed_reply n words out =
    let F = rows_of_words n words in unless_refused (list_questions n F (n + n) (length out)) out (listed n (fixed_space_lem n F) 0 out)
