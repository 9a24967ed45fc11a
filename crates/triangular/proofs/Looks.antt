-- The looks of a search only grow, and each draw takes one.
-- Assumes nothing.
use mathlib.Core.Bool.{Bool, true, false}
use mathlib.Core.List.{List}
use Prim.Native.Nat.{ℕ, zero, suc, ◌-◌, ◌^◌, ◌≤◌}
use native.Mathlib.Nat.{le_refl, le_trans, le-suc}
use Rattle.blocks.specs.Matrices.{times}
use Rattle.triangular.specs.Spaces.{complement, is_alternating_lem}
use Rattle.triangular.specs.Search.{Outcome, found, failed, unless_alternating, after_rest, draw, draws, search, looks_of}

-- no outcome has fewer looks than there were
abbrev pub Up : (ℕ → Outcome) → Type 0
Up go = (looks : ℕ) → looks ≤ looks_of (go looks)

pub after_up : (p : ℕ) (next : ℕ → Outcome) → Up next → (out : Outcome) → looks_of out ≤ looks_of (after_rest p next out)
after_up p next u (found ps n) = le_refl n
after_up p next u (failed n) = u n

pub draw_up : (b : Bool) (p : ℕ) (rest next : ℕ → Outcome) → Up rest → Up next → (looks : ℕ) → suc looks ≤ looks_of (draw b p rest next looks)
draw_up true p rest next u w n = le_trans (u (suc n)) (after_up p next w (rest (suc n)))
draw_up false p rest next u w n = w (suc n)

module _ (E : ℕ → ℕ → Bool) where
  pub draws_up : (sub : List ℕ → ℕ → Outcome) → ((bs : List ℕ) → Up (sub bs)) → (bs : List ℕ) (k c : ℕ) → Up (draws E sub bs k c)
  unfolding draws
  draws_up sub u bs zero c n = le_refl n
  draws_up sub u bs (suc k) c n =
      let p = times c bs in
      let rest = complement (E p) bs in
      le_trans (le-suc n) (draw_up (E p p) p (sub rest) (draws E sub bs k (suc c)) (u rest) (draws_up sub u bs k (suc c)) n)

  unless_up : (b : Bool) (go : ℕ → Outcome) → Up go → Up (unless_alternating b go)
  unless_up true go u n = le_refl n
  unless_up false go u n = u n

  pub search_up : (d : ℕ) (bs : List ℕ) → Up (search E d bs)
  unfolding search
  search_up zero bs n = le_refl n
  search_up (suc d) bs n =
      unless_up (is_alternating_lem E bs) (draws E (search E d) bs (2 ^ suc d - 1) 1) (draws_up (search E d) (search_up d) bs (2 ^ suc d - 1) 1) n
