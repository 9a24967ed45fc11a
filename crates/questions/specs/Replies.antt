-- What a call answers, and the questions that list calls share.
-- Assumes nothing.
use Rattle.std.specs.Prelude.{◌≡◌, Bool, true, false, List, ℕ, zero, suc, ◌+◌, leb, eqb, length, take}
use Rattle.blocks.specs.Words.{rows_of_words, laid}
use Rattle.symplectic.specs.Sizes.{max_qubits}
use Rattle.symplectic.specs.Turns.{symplectic, product}
use Rattle.symplectic.specs.Matches.{fit_all}
use Rattle.symplectic.specs.NoneShorter.{NoneShorter}
use Rattle.questions.specs.declared.Figures.{Figures}

-- the figures of a call that has listed nothing: the number of the question that was answered no, or 0. Open to users
abbrev pub nothing_listed_lem : ℕ → Figures
nothing_listed_lem number = record { number = number; count = 0; looks = 0 }

-- a call's whole answer. This record and the two below are plain data, open to users
pub record Reply : Type 0 where
  -- its number (0 for an answer, else that of the question that was answered no), how many vectors or rows it listed, and how many
  -- draws (document 01: looks) its search took
  pub figures : Figures
  -- the lent output words as the call leaves them
  pub words : List ℕ

-- a refusal has count 0 and leaves the lent words unchanged
abbrev pub refused : ℕ → ℕ → List ℕ → Reply
refused number looks out = record { figures = record { number = number; count = 0; looks = looks }; words = out }

-- an answer, vectors of n qubits, stands in the lent words from their start; words past it are unchanged
abbrev pub listed : ℕ → List ℕ → ℕ → List ℕ → Reply
listed n vs looks out = record { figures = record { number = 0; count = length vs; looks = looks }; words = laid n vs out }

-- the first no gives its number; 0 where every question is passed
abbrev pub ask : Bool → ℕ → ℕ → ℕ
ask true number later = later
ask false number later = number

-- the questions of one kind, then those of another
abbrev pub and_then : ℕ → ℕ → ℕ
and_then zero later = later
and_then (suc number) later = suc number

-- the answer where every question is passed, else the refusal
abbrev pub unless_refused : ℕ → List ℕ → Reply → Reply
unless_refused zero out answer = answer
unless_refused (suc number) out answer = refused (suc number) 0 out

-- 1: is n at most the most qubits?
unfoldable pub size_question : ℕ → ℕ → ℕ
size_question n later = ask (leb n max_qubits) 1 later

-- 2: are exactly 2n rows lent?
unfoldable pub count_question : ℕ → List ℕ → ℕ → ℕ
count_question n rows later = ask (eqb (length rows) (n + n)) 2 later

-- of an action, 1, 2, 3: is each row free of bits from 2n up? and 4: is F symplectic?
unfoldable pub action_questions_lem : ℕ → List ℕ → ℕ
action_questions_lem n rows =
    size_question n (count_question n rows (ask (fit_all (n + n) rows) 3 (ask (symplectic n rows) 4 0)))

-- of a list call, then 5: are there at least as many output words as it wants?
unfoldable pub list_questions : ℕ → List ℕ → ℕ → ℕ → ℕ
list_questions n rows wanted lent = and_then (action_questions_lem n rows) (ask (leb wanted lent) 5 0)

-- ---- what an answer promises, open to users

-- of a list call: the product of the vectors left is the whole lent action
abbrev pub Replays : ℕ → List ℕ → List ℕ → Figures → Type 0
Replays n rows left t = t.number ≡ 0 → product n (take t.count (rows_of_words n left)) ≡ rows_of_words n rows

-- of a call whose list is as short as any: no list of vectors on 2n columns whose product is the action has fewer entries
abbrev pub Shortest : ℕ → List ℕ → Figures → Type 0
Shortest n rows t = t.number ≡ 0 → NoneShorter n (rows_of_words n rows) t.count

-- of a call that multiplies turns out: the words left are their whole product
abbrev pub Rebuilds : ℕ → List ℕ → List ℕ → Figures → Type 0
Rebuilds n turns left t = t.number ≡ 0 → rows_of_words n left ≡ product n turns
