-- The rebuild: the product of any list, zeros and repeats allowed, in exactly 2n lent rows.
-- Assumes nothing.
use Rattle.std.specs.Prelude.{List, ℕ, ◌+◌}
use Rattle.blocks.specs.Words.{rows_of_words}
use Rattle.symplectic.specs.Turns.{product}
use Rattle.questions.specs.Replies.{Reply, listed, unless_refused, ask, size_question, count_question}
use Rattle.symplectic.specs.Matches.{fit_all}

-- 1, 2 of the output rows, then 8: has each vector only bits below 2n?
unfoldable pub rebuild_questions : ℕ → List ℕ → List ℕ → ℕ
rebuild_questions n vs rows = size_question n (count_question n rows (ask (fit_all (n + n) vs) 8 0))

unfoldable pub rebuild_reply : ℕ → List ℕ → List ℕ → Reply
rebuild_reply n list out =
    let vs = rows_of_words n list in unless_refused (rebuild_questions n vs (rows_of_words n out)) out (listed n (product n vs) 0 out)
