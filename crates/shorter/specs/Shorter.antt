-- The shorter of two lists that match an action, the first at equal length. Zero vectors count towards length.
-- Assumes nothing.
use Rattle.std.specs.Prelude.{Bool, true, false, List, [], ℕ, zero, suc, ltb, eqb, length}
use Rattle.binar.specs.Bits.{select}
use Rattle.blocks.specs.Words.{rows_of_words}
use Rattle.questions.specs.Replies.{action_questions_lem}
use Rattle.symplectic.specs.Matches.{matches}
use Rattle.shorter.specs.declared.Chosen.{Chosen}

-- an answer: the first list or the second; and a refusal, which has none. Open to users
abbrev pub chosen : ℕ → Chosen
chosen list = record { number = 0; list = list }

abbrev pub nothing_chosen : ℕ → Chosen
nothing_chosen number = record { number = number; list = 0 }

-- whether the first list matches, whether the second does, and whether the second is shorter; 14 where neither matches
abbrev pub preferred : Bool → Bool → Bool → Chosen
preferred true true shorter = chosen (select 1 shorter 2)
preferred true false shorter = chosen 1
preferred false true shorter = chosen 2
preferred false false shorter = nothing_chosen 14

-- the choice between two lists of vectors, for an action that passed
unfoldable pub shorter_of_lem : ℕ → List ℕ → List ℕ → List ℕ → Chosen
shorter_of_lem n F vs ws = preferred (matches n F vs) (matches n F ws) (ltb (length ws) (length vs))

-- the answer where every question of the action is passed, else the refusal
abbrev pub chosen_unless : ℕ → Chosen → Chosen
chosen_unless zero answer = answer
chosen_unless (suc number) answer = nothing_chosen (suc number)

-- questions 1 to 4 of the action, then 14
unfoldable pub shorter_reply : ℕ → List ℕ → List ℕ → List ℕ → Chosen
shorter_reply n rows first second =
    let F = rows_of_words n rows in
    chosen_unless (action_questions_lem n F) (shorter_of_lem n F (rows_of_words n first) (rows_of_words n second))

-- what comes back of the two lent lists: the first whole, the second whole, or nothing of the first
unfoldable pub part_of : ℕ → List ℕ → List ℕ → List ℕ
part_of list first second = select (select [] (eqb list 2) second) (eqb list 1) first

-- where it stands: at the start of the second list, or of the first
unfoldable pub place_of : {A : Type 0} → ℕ → A → A → A
place_of list first second = select first (eqb list 2) second
