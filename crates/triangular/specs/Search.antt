-- The search for a basis, each member p with pEp = 1 and pEy = 0 for every later y, and the draws that it takes.
-- Assumes nothing.
use Rattle.std.specs.Prelude.{Bool, true, false, List, [], ◌∷◌, ℕ, zero, suc, ◌-◌, ◌^◌, leb}
use Rattle.blocks.specs.Matrices.{times}
use Rattle.triangular.specs.Spaces.{complement, is_alternating_lem}

-- what a search gives: a basis or none, and how many draws (document 01: looks) have been taken
pub data Outcome : Type 0 where
  found : List ℕ → ℕ → Outcome
  failed : ℕ → Outcome

-- an alternating space fails without a draw
abbrev pub unless_alternating : Bool → (ℕ → Outcome) → ℕ → Outcome
unless_alternating true go looks = failed looks
unless_alternating false go looks = go looks

-- after the rest that a draw p passes on: the first draw whose rest succeeds wins
abbrev pub after_rest : ℕ → (ℕ → Outcome) → Outcome → Outcome
after_rest p next (found ps looks) = found (p ∷ ps) looks
after_rest p next (failed looks) = next looks

-- one draw of p, accepted or not
abbrev pub draw : Bool → ℕ → (ℕ → Outcome) → (ℕ → Outcome) → ℕ → Outcome
draw true p rest next looks = after_rest p next (rest (suc looks))
draw false p rest next looks = next (suc looks)

module _ (E : ℕ → ℕ → Bool) where
  -- k draws from coefficient c on; bit i takes basis member i; a draw with pEp = 1 passes on the rest, which `sub` searches
  unfoldable pub draws : (List ℕ → ℕ → Outcome) → List ℕ → ℕ → ℕ → ℕ → Outcome
  draws sub bs zero c looks = failed looks
  draws sub bs (suc k) c looks = let p = times c bs in draw (E p p) p (sub (complement (E p) bs)) (draws sub bs k (suc c)) looks

  -- a space of dimension d; an empty one succeeds; coefficients run 1, 2, up to 2^d - 1
  unfoldable pub search : ℕ → List ℕ → ℕ → Outcome
  search zero bs looks = found [] looks
  search (suc d) bs looks = unless_alternating (is_alternating_lem E bs) (draws (search d) bs (2 ^ suc d - 1) 1) looks

abbrev pub looks_of : Outcome → ℕ
looks_of (found ps looks) = looks
looks_of (failed looks) = looks

-- ---- the budget, laid over the search

pub data Verdict : Type 0 where
  ended : Outcome → Verdict
  spent : ℕ → Verdict

abbrev pub ended_if : Bool → Outcome → ℕ → Verdict
ended_if true out budget = ended out
ended_if false out budget = spent budget

-- the search ends without a look beyond the budget, or is spent
unfoldable pub budgeted : ℕ → Outcome → Verdict
budgeted budget out = ended_if (leb (looks_of out) budget) out budget
