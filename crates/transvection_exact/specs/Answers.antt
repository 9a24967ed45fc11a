-- What the answer of the minimal call says, and what the call promises of it.
-- Assumes nothing.
use Rattle.std.specs.Prelude.{◌≡◌, List, ◌⊎◌, ℕ, suc, ◌+◌, ◌≤◌, ◌<◌, length, Result, Ok, Err}
use Rattle.blocks.specs.Words.{rows_of_words}
use Rattle.questions.specs.declared.Figures.{Figures}
use Rattle.questions.specs.Replies.{Reply, action_questions_lem, list_questions}
use Rattle.residue.specs.Residue.{basis}
use Rattle.triangular.specs.Bases.{TriangularBasis}
use Rattle.triangular.specs.Search.{looks_of}
use Rattle.questions.specs.Answers.{listing_number}
use Rattle.transvection_exact.specs.declared.Listed.{Listed}
use Rattle.transvection_exact.specs.declared.MinimalError.{MinimalError}
use Rattle.transvection_exact.specs.declared.MinimalError.TheVariants.{Listing, Spent}
use Rattle.memory.specs.Entries.{entry_size}
use Rattle.transvection_exact.specs.Minimal.{core_search, core_search_with}

-- these three are open to users
abbrev pub minimal_number : MinimalError → ℕ
minimal_number (Listing e) = listing_number e
minimal_number (Spent looks) = 6

abbrev pub looks_taken : MinimalError → ℕ
looks_taken (Listing e) = 0
looks_taken (Spent looks) = looks

-- the number of the question that was answered no, 0 for an answer; the count of the list; the looks of the search
abbrev pub figures_of_lem : Result Listed MinimalError → Figures
figures_of_lem (Ok l) = record { number = 0; count = l.count; looks = l.looks }
figures_of_lem (Err e) = record { number = minimal_number e; count = 0; looks = looks_taken e }

-- r, the count of V's rows and so the rank of I + F, where the core has a triangular basis, and r + 1 where it has none
abbrev pub RankOrOneMore : ℕ → List ℕ → ℕ → Type 0
RankOrOneMore n F count =
    let r = length (basis n F) in
    (TriangularBasis n F × (count ≡ r)) ⊎ ((TriangularBasis n F → ⊥) × (count ≡ suc r))

-- every layer gets its list: an action that passes questions 1 to 4 is refused only for its buffers (5) or its budget (6), and the count
-- of an answer is r or r + 1
abbrev pub EveryLayer : ℕ → List ℕ → Figures → Type 0
EveryLayer n rows t =
    let F = rows_of_words n rows in
    (action_questions_lem n F ≡ 0 → (t.number ≡ 0) ⊎ ((t.number ≡ 5) ⊎ (t.number ≡ 6)))
    × (t.number ≡ 0 → RankOrOneMore n F t.count)

-- questions 1 to 5, with 2n + 1 output words, are passed, and a search that takes so many looks takes one beyond the budget
abbrev pub Beyond : ℕ → ℕ → List ℕ → ℕ → List ℕ → Type 0
Beyond wanted n rows budget out =
    let F = rows_of_words n rows in
    (list_questions n F (n + n + 1) (length out) ≡ 0) × (budget < wanted)

-- the budget is exact: 6 just where the search takes a look beyond it, and then every look was taken;
-- an answer has the looks of the search without a budget
abbrev pub ExactFor : ℕ → ℕ → List ℕ → ℕ → List ℕ → Figures → Type 0
ExactFor wanted n rows budget out t =
    (t.number ≡ 6 → Beyond wanted n rows budget out)
    × ((Beyond wanted n rows budget out → t.number ≡ 6)
    × ((t.number ≡ 0 → t.looks ≡ wanted)
    × (t.number ≡ 6 → t.looks ≡ budget)))

-- of document 01's search
abbrev pub Exact : ℕ → List ℕ → ℕ → List ℕ → Figures → Type 0
Exact n rows budget out t = ExactFor (looks_of (core_search n (rows_of_words n rows))) n rows budget out t

-- ---- with a lent memory

-- of the search with room for so many entries
abbrev pub ExactWith : ℕ → ℕ → List ℕ → ℕ → List ℕ → Figures → Type 0
ExactWith room n rows budget out t = ExactFor (looks_of (core_search_with n (rows_of_words n rows) room).outcome) n rows budget out t

-- beside document 01's call, which replies `plain`: spent only where that is spent; wherever that is not, the number, the count and the output words are its own; never more looks
abbrev pub AsWithout : Reply → List ℕ → Figures → Type 0
AsWithout plain left t =
    (t.number ≡ 6 → plain.figures.number ≡ 6)
    × (((plain.figures.number ≡ 6 → ⊥) → (t.number ≡ plain.figures.number) × ((t.count ≡ plain.figures.count) × (left ≡ plain.words)))
    × (t.looks ≤ plain.figures.looks))

-- with fewer words than an entry takes it is document 01's call, and the memory is as it was
abbrev pub Plainly : Reply → List ℕ → List ℕ → List ℕ → Figures → Type 0
Plainly plain memory memoryAfter left t = length memory < entry_size → (t ≡ plain.figures) × ((left ≡ plain.words) × (memoryAfter ≡ memory))
