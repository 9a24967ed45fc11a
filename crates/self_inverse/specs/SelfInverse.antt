-- Self-inverse layers (document 02, item 9): question 17, and the reply with a list of the program's choice.
-- Assumes nothing.
use Rattle.std.specs.Prelude.{Bool, List, ℕ, ◌+◌, length}
use Rattle.blocks.specs.Matrices.{matmul, units}
use Rattle.blocks.specs.Words.{rows_of_words}
use Rattle.symplectic.specs.Matches.{same_rows}
use Rattle.questions.specs.Replies.{Reply, listed, ask, and_then, unless_refused, list_questions}

-- F times F is the identity
unfoldable pub is_self_inverse : ℕ → List ℕ → Bool
is_self_inverse n F = same_rows (matmul F F) (units (n + n))

-- questions 1 to 5, with 2n + 1 output words, then 17: is F times F the identity?
unfoldable pub self_inverse_questions : ℕ → List ℕ → ℕ → ℕ
self_inverse_questions n F lent = and_then (list_questions n F (n + n + 1) lent) (ask (is_self_inverse n F) 17 0)

-- the reply with a list of vectors. Which list is the program's choice: the promises say what holds of every one
unfoldable pub self_inverse_reply : ℕ → List ℕ → List ℕ → List ℕ → Reply
self_inverse_reply n words vs out = unless_refused (self_inverse_questions n (rows_of_words n words) (length out)) out (listed n vs 0 out)
