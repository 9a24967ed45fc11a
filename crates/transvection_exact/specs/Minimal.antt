-- The minimal list (`minimal_decomposition`): the search's list of r vectors, else the bordered list of r + 1, which needs no check
-- (document 02, item 7). Also with a lent memory (item 6).
-- Assumes nothing.
use Rattle.std.specs.Prelude.{List, [], ℕ, zero, suc, ◌+◌, length}
use Rattle.blocks.specs.Matrices.{units}
use Rattle.blocks.specs.Words.{rows_of_words, over}
use Rattle.questions.specs.Replies.{Reply, refused, listed, unless_refused, list_questions}
use Rattle.residue.specs.Residue.{basis, core, form}
use Rattle.triangular.specs.Search.{Outcome, found, failed, search, looks_of, Verdict, ended, spent, budgeted}
use Rattle.triangular.specs.Memory.{Remembered, search_with, known_within}
use Rattle.memory.specs.Entries.{memory_words, room_in}
use Rattle.family.specs.Family.{times_basis, bordered_list}

-- the search on the core of an action, with no budget, begun from unit vectors
unfoldable pub core_search : ℕ → List ℕ → Outcome
core_search n F = let r = length (basis n F) in search (form (core n F)) r (units r) 0

-- found: each search vector times V, in order; not found: the bordered list
abbrev pub list_after : ℕ → List ℕ → Outcome → List ℕ
list_after n F (found ps looks) = times_basis n F ps
list_after n F (failed looks) = bordered_list n F

-- 6: does the search end without a look beyond the budget?
abbrev pub searched_reply : ℕ → List ℕ → Verdict → List ℕ → Reply
searched_reply n F (ended outcome) out = listed n (list_after n F outcome) (looks_of outcome) out
searched_reply n F (spent looks) out = refused 6 looks out

-- questions 1 to 5, with 2n + 1 output words, then 6
unfoldable pub minimal_reply : ℕ → List ℕ → ℕ → List ℕ → Reply
minimal_reply n words budget out =
    let F = rows_of_words n words in
    unless_refused (list_questions n F (n + n + 1) (length out)) out (searched_reply n F (budgeted budget (core_search n F)) out)

-- ---- with a lent memory

-- the search with room for so many entries
unfoldable pub core_search_with : ℕ → List ℕ → ℕ → Remembered
core_search_with n F room = let r = length (basis n F) in search_with (form (core n F)) r room r (units r) 0 []

-- the same questions, 6 of this search
unfoldable pub remembering_reply : ℕ → List ℕ → ℕ → List ℕ → List ℕ → Reply
remembering_reply n words budget memory out =
    let F = rows_of_words n words in
    unless_refused (list_questions n F (n + n + 1) (length out)) out (searched_reply n F (budgeted budget (core_search_with n F (room_in memory)).outcome) out)

abbrev pub unless_asked : ℕ → List ℕ → List ℕ → List ℕ
unless_asked zero kept entered = entered
unless_asked (suc k) kept entered = kept

-- the lent memory after the call: untouched on a refusal by 1 to 5; else the entries of this call in order, and the words beyond them unchanged
unfoldable pub memory_left : ℕ → List ℕ → ℕ → List ℕ → List ℕ → List ℕ
memory_left n words budget memory out =
    let F = rows_of_words n words in
    unless_asked (list_questions n F (n + n + 1) (length out)) memory (over (memory_words (known_within budget (core_search_with n F (room_in memory)).memory)) memory)
