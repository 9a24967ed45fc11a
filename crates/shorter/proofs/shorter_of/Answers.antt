-- `shorter_of` tries the list that is to be played first, and then the other, by the laws of each choice.
use mathlib.Core.Path.{◌≡◌, sym, ap₂, ◌∙◌}
use mathlib.Core.Bool.{true, false, true≢false}
use mathlib.Core.Logic.{◌⊎◌, inl, inr, ⊎_elim}
use Prim.Native.Nat.{ℕ, ◌≤◌, ◌<◌}
use mathlib.Core.List.{List}
use lib.Dec.{ltb}
use lib.ListN.{length}
use borrow.Author.Tests.{lt-ltb, le-ltb}
use Rattle.blocks.specs.Words.{rows_of_words}
use Rattle.blocks.proofs.Values.{rows_count}
use Rattle.symplectic.specs.Sizes.{capped}
use Rattle.actions.specs.Actions.{matrix}
use Rattle.symplectic.specs.Matches.{matches}
use Rattle.shorter.proofs.Choices.{shorter_second, first_matches, first_alone, second_alone, neither_matches}
use Rattle.shorter.proofs.shorter_of.Goals as goal
use Rattle.shorter.proofs.shorter_of.Goals.{Joined-else-shorter, else-shorter-via-then-shorter+else-matches, else-shorter-via-else-shorter, else-not-shorter-via-then-not-shorter+else-matches-3, else-not-shorter-via-else-not-shorter}

-- the vectors of a list are as many as its words
less : (n : ℕ) (first second : List ℕ) → length second < length first → ltb (length (rows_of_words n second)) (length (rows_of_words n first)) ≡ true
less n first second h = ap₂ ltb (rows_count n second) (rows_count n first) ∙ lt-ltb (length second) (length first) h

no_less : (n : ℕ) (first second : List ℕ) → length first ≤ length second → ltb (length (rows_of_words n second)) (length (rows_of_words n first)) ≡ false
no_less n first second h = ap₂ ltb (rows_count n second) (rows_count n first) ∙ le-ltb (length second) (length first) h

-- past the first branch: the second list is no shorter, or does not match
passed : (c : goal.Joined-else-shorter) → let s = c.args in
    (ltb (length (rows_of_words s.n s.second.now)) (length (rows_of_words s.n s.first.now)) ≡ false) ⊎ (matches (capped s.n) (matrix s.a) (rows_of_words s.n s.second.now) ≡ false)
passed c =
    elim c.else-shorter.branch [
      | else-shorter-via-then-shorter+else-matches w ↦ inr (sym w.matches.ensures ∙ w.if-matches.false)
      | else-shorter-via-else-shorter w ↦ inl (no_less c.args.n c.args.first.now c.args.second.now w.if-shorter.false)
    ]

pub returns-then-matches : goal.returns-then-matches
returns-then-matches c =
    let a = c.args in
    shorter_second (capped a.n) (matrix a.a) (rows_of_words a.n a.first.now) (rows_of_words a.n a.second.now)
    (less a.n a.first.now a.second.now c.if-shorter.true) (sym c.matches.ensures ∙ c.if-matches.true)

pub returns-then-matches-2 : goal.returns-then-matches-2
returns-then-matches-2 c =
    let a = c.args in
    let F = matrix a.a in
    let vs = rows_of_words a.n a.first.now in
    let ws = rows_of_words a.n a.second.now in
    let one = sym c.matches-2.ensures ∙ c.if-matches-2.true in
    ⊎_elim (λ r. first_matches (capped a.n) F vs ws r one) (λ q. first_alone (capped a.n) F vs ws one q) (passed (goal.at.returns-then-matches-2 c).Joined-else-shorter)

pub returns-then-matches-3 : goal.returns-then-matches-3
returns-then-matches-3 c =
    let a = c.args in
    second_alone (capped a.n) (matrix a.a) (rows_of_words a.n a.first.now) (rows_of_words a.n a.second.now)
    (sym c.matches-2.ensures ∙ c.if-matches-2.false) (sym c.matches-then-not-shorter.ensures ∙ c.if-matches-3.true)

pub returns : goal.returns
returns c =
    let a = c.args in
    let first = a.first.now in
    let second = a.second.now in
    let vs = rows_of_words a.n first in
    let ws = rows_of_words a.n second in
    let short : length second < length first → matches (capped a.n) (matrix a.a) ws ≡ false
    = λ h. ⊎_elim (λ l. absurd (true≢false (sym (less a.n first second h) ∙ l))) (λ q. q) (passed (goal.at.returns c).Joined-else-shorter) in
    let other : matches (capped a.n) (matrix a.a) ws ≡ false
    = elim c.else-not-shorter.branch [
      | else-not-shorter-via-then-not-shorter+else-matches-3 w ↦ sym w.matches-then-not-shorter.ensures ∙ w.if-matches-3.false
      | else-not-shorter-via-else-not-shorter w ↦ short w.if-not-shorter.false
    ] in
    neither_matches (capped a.n) (matrix a.a) vs ws (sym c.matches-2.ensures ∙ c.if-matches-2.false) other
