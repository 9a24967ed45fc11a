-- What the call promises, of whichever list it chooses: that list is what stands in the words left. Open to users.
-- Beside these: its product is the action, and no list is shorter (`Replays`, `Shortest`).
-- Assumes nothing.
use Rattle.std.specs.Prelude.{◌≡◌, false, List, ℕ, suc, ◌+◌, ◌^◌, ◌<◌, length, take}
use Rattle.blocks.specs.Matrices.{times, matmul, units, All}
use Rattle.blocks.specs.Words.{rows_of_words}
use Rattle.symplectic.specs.Turns.{pairing, identity_plus}
use Rattle.reduction.specs.Columns.{rank}
use Rattle.questions.specs.declared.Figures.{Figures}
use Rattle.questions.specs.Replies.{list_questions}

-- the list that was chosen
abbrev pub chosen : ℕ → List ℕ → Figures → List ℕ
chosen n left t = take t.count (rows_of_words n left)

-- all vectors of a list pair to 0 with each other
abbrev pub AllCommute : ℕ → List ℕ → Type 0
AllCommute n vs = All (λ v. All (λ w. pairing n v w ≡ false) vs) vs

-- <u,uF> = 0 for all u
abbrev pub Isotropic : ℕ → List ℕ → Type 0
Isotropic n F = (u : ℕ) → u < 2 ^ (n + n) → pairing n u (times u F) ≡ false

-- of an answer: all its vectors pair to 0 with each other
abbrev pub Commuting : ℕ → List ℕ → Figures → Type 0
Commuting n left t = t.number ≡ 0 → AllCommute n (chosen n left t)

-- none for the identity; for any other F, with r the rank of I + F, r + 1 if <u,uF> = 0 for all u, and r if not
abbrev pub RankOrNext : ℕ → List ℕ → ℕ → Type 0
RankOrNext n F count =
    let r = rank (n + n) (identity_plus n F) in
    (F ≡ units (n + n) → count ≡ 0)
    × (((F ≡ units (n + n) → ⊥) → Isotropic n F → count ≡ suc r)
    × ((Isotropic n F → ⊥) → count ≡ r))

abbrev pub Counted : ℕ → List ℕ → Figures → Type 0
Counted n rows t = t.number ≡ 0 → RankOrNext n (rows_of_words n rows) t.count

-- questions 1 to 5 are passed, and F times F is not the identity
abbrev pub OtherInverse : ℕ → List ℕ → List ℕ → Type 0
OtherInverse n rows out =
    let F = rows_of_words n rows in
    (list_questions n F (n + n + 1) (length out) ≡ 0) × (matmul F F ≡ units (n + n) → ⊥)

-- 17 exactly then
abbrev pub Seventeen : ℕ → List ℕ → List ℕ → Figures → Type 0
Seventeen n rows out t = (t.number ≡ 17 → OtherInverse n rows out) × (OtherInverse n rows out → t.number ≡ 17)
