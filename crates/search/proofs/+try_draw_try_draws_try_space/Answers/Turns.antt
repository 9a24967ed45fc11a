-- What a draw of `try_draws` came to.
use mathlib.Core.Path.{◌≡◌, sym, ap, ◌∙◌, subst}
use mathlib.Core.List.{List}
use Prim.Native.Nat.{ℕ, ◌+◌, ◌-◌, ◌<◌, ◌^◌}
use lib.ListN.{take, drop}
use Rattle.binar.specs.Rows.{val, width}
use Rattle.blocks.specs.Matrices.{times, All}
use Rattle.blocks.specs.Words.{rows_in_lem}
use Rattle.triangular.specs.Memory.{Entry, search_with}
use Rattle.memory.specs.Entries.{room_in}
use Rattle.search.specs.inner.Reports.{Space, Carries, Grew, Reports}
use mathlib.Core.Bool.{true}
use native.Mathlib.Omega.{arith}
use Rattle.residue.specs.Residue.{form}
use Rattle.triangular.specs.Spaces.{complement}
use Rattle.memory.proofs.Kept.{room_same}
use Rattle.spaces.specs.Levels.{gram_of}
use Rattle.search.specs.inner.Levels.{found_in}
use Rattle.search.proofs.LentLevels.{front_less}
use Rattle.search.proofs.Reported.{grew_on}
use Rattle.search.proofs.+try_draw_try_draws_try_space.Goals as goal
use Rattle.search.proofs.+try_draw_try_draws_try_space.Goals.{try_draw-After-is_alternating, try_draw-After-start-b, try_draws-After-dot, try_draws-After-low_ones-last, try_draws-After-next-c, try_draws-After-bitxor_assign, try_draws-After-try_draw-o, try_space-After-ask, try_space-After-try_draws-o}
use Rattle.search.proofs.+try_draw_try_draws_try_space.Answers.Places.{members, summed, sum_is, tested}

-- what a draw came to
module _ (t : ℕ) (c : goal.try_draws-After-try_draw-o t) where
  abbrev pub draws_d : ℕ
  draws_d = c.args.d

  abbrev pub x : ℕ
  x = val c.next-c.result

  abbrev pub draws_room : ℕ
  draws_room = room_in c.args.memory.now

  -- the space as it stands in the loop
  pub same_b : take draws_d (rows_in_lem c.loop-last.basis) ≡ members t (goal.at.try_draws-After-try_draw-o t c).After-low_ones-last
  same_b = front_less draws_d (draws_d + draws_d) (rows_in_lem c.loop-last.basis) (rows_in_lem c.args.basis.now) (omega arith) c.loop-last.invariant.5

  pub same_g : take draws_d (rows_in_lem c.loop-last.gram) ≡ take draws_d (summed t (goal.at.try_draws-After-try_draw-o t c).After-low_ones-last)
  same_g = front_less draws_d (draws_d + draws_d) (rows_in_lem c.loop-last.gram) (summed t (goal.at.try_draws-After-try_draw-o t c).After-low_ones-last) (omega arith) c.loop-last.invariant.6

  module _ (E : List ℕ) (sp : Space E draws_d (rows_in_lem c.args.basis.now) (summed t (goal.at.try_draws-After-try_draw-o t c).After-low_ones-last)) where
    pub draws_stands : Space E draws_d (rows_in_lem c.loop-last.basis) (rows_in_lem c.loop-last.gram)
    draws_stands = subst (λ (l : List ℕ). (gram_of E l ≡ take draws_d (rows_in_lem c.loop-last.gram)) × All (λ v. v < 2 ^ width) l) (sym same_b) (sp.0 ∙ sym same_g, sp.1)

    pub accepted : form E (times x (members t (goal.at.try_draws-After-try_draw-o t c).After-low_ones-last)) (times x (members t (goal.at.try_draws-After-try_draw-o t c).After-low_ones-last)) ≡ true
    accepted = tested t (goal.at.try_draws-After-try_draw-o t c).After-dot E sp.0 ∙ c.if-dot.true

    pub draws_came : (N : List Entry) → Carries (c.loop-last.spent + 1) c.loop-last.memory c.loop-last.kept N
        → Reports c.args.budget (search_with (form E) width draws_room (draws_d - 1) (complement (form E (times x (members t (goal.at.try_draws-After-try_draw-o t c).After-low_ones-last))) (members t (goal.at.try_draws-After-try_draw-o t c).After-low_ones-last)) (c.loop-last.spent + 1) N)
        c.try_draw-o.result.ending c.try_draw-o.result.looks (found_in (draws_d - 1) (drop (draws_d + draws_d) (rows_in_lem c.try_draw-o.new.basis))) c.try_draw-o.new.memory c.try_draw-o.result.used
    draws_came N ca =
        let o = c.try_draw-o in
        subst (λ n. Reports c.args.budget (search_with (form E) width n (draws_d - 1) (complement (form E (times x (members t (goal.at.try_draws-After-try_draw-o t c).After-low_ones-last))) (members t (goal.at.try_draws-After-try_draw-o t c).After-low_ones-last)) (c.loop-last.spent + 1) N)
        o.result.ending o.result.looks (found_in (draws_d - 1) (drop (draws_d + draws_d) (rows_in_lem o.new.basis))) o.new.memory o.result.used) (room_same c.loop-last.memory c.args.memory.now c.loop-last.invariant.4)
        (subst (λ (l : List ℕ). Reports c.args.budget (search_with (form E) width (room_in c.loop-last.memory) (draws_d - 1) (complement (form E (times x l)) l) (c.loop-last.spent + 1) N)
        o.result.ending o.result.looks (found_in (draws_d - 1) (drop (draws_d + draws_d) (rows_in_lem o.new.basis))) o.new.memory o.result.used) same_b
        (o.ensures.4 E N x draws_stands ca (sum_is t (goal.at.try_draws-After-try_draw-o t c).After-bitxor_assign ∙ ap (times x) (sym same_g)) (sym c.dot.ensures ∙ c.if-dot.true)))

  -- the memory since the draws began
  pub grown : Grew c.args.memory.now c.args.used c.try_draw-o.new.memory c.try_draw-o.result.used
  grown = grew_on c.args.memory.now c.args.used c.loop-last.memory c.loop-last.kept c.try_draw-o.new.memory c.try_draw-o.result.used c.loop-last.invariant.8 c.try_draw-o.ensures.1

  pub basis_still : take (draws_d + draws_d) (rows_in_lem c.try_draw-o.new.basis) ≡ take (draws_d + draws_d) (rows_in_lem c.args.basis.now)
  basis_still = c.try_draw-o.ensures.2 ∙ c.loop-last.invariant.5
