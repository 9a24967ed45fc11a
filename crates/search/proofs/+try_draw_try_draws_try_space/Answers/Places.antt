-- What the draws begin with, and what a draw draws.
use mathlib.Core.Path.{◌≡◌, sym, ap, ◌∙◌}
use mathlib.Core.List.{List}
use Prim.Native.Nat.{ℕ, ◌+◌, ◌-◌, ◌<◌, ◌^◌, suc}
use lib.ListN.{length, take}
use Rattle.binar.specs.Rows.{val, lowest}
use Rattle.blocks.specs.Matrices.{times}
use Rattle.blocks.specs.Words.{rows_in_lem}
use Rattle.search.specs.inner.Reports.{Space}
use native.Mathlib.Omega.{arith}
use Rattle.binar.specs.Bits.{dot, ◌⊕◌}
use Rattle.residue.specs.Residue.{form}
use Rattle.spaces.specs.Levels.{gram_of}
use Rattle.spaces.proofs.Grams.{gram_self}
use Rattle.search.proofs.LentLevels.{levels_least, front_get}
use borrow.Author.Tests.{ltb-true}
use Rattle.spaces.proofs.Levels.{sums_front, sums_at}
use Rattle.binar.proofs.Orders.{rows_lt}
use Rattle.search.proofs.Drawing.{next_is, next_column, next_drawn}
use Rattle.search.proofs.+try_draw_try_draws_try_space.Goals as goal
use Rattle.search.proofs.+try_draw_try_draws_try_space.Goals.{try_draw-After-is_alternating, try_draw-After-start-b, try_draws-After-dot, try_draws-After-low_ones-last, try_draws-After-next-c, try_draws-After-bitxor_assign, try_draws-After-try_draw-o, try_space-After-ask, try_space-After-try_draws-o}

-- the coefficients that come next
module _ (t : ℕ) (c : goal.try_draws-After-next-c t) where
  abbrev pub last : ℕ
  last = val c.low_ones-last.result

  abbrev pub before : ℕ
  before = val c.loop-last.c

  pub ahead : val c.loop-last.c < val c.low_ones-last.result
  ahead = ltb-true before last (sym (c.lt.ensures ∙ rows_lt c.loop-last.c c.low_ones-last.result) ∙ c.loop-last-test.true)

  pub next_value : val c.next-c.result ≡ val c.loop-last.c + 1
  next_value = next_is c.args.d last before (val c.next-c.result) c.requires.1 c.low_ones-last.ensures ahead c.next-c.ensures

  pub column : (k : ℕ) → k ≡ lowest (val c.next-c.result) → k < c.args.d
  column = next_column c.args.d last before (val c.next-c.result) c.requires.1 c.low_ones-last.ensures ahead c.next-c.ensures

  pub draws_drawn : (M : List ℕ) (p y k : ℕ) → k ≡ lowest (val c.next-c.result) → p ≡ times before M → y ≡ times (2 ^ suc k - 1) M → p ⊕ y ≡ times (val c.next-c.result) M
  draws_drawn = next_drawn c.args.d last before (val c.next-c.result) c.requires.1 c.low_ones-last.ensures ahead c.next-c.ensures

-- the members and the Gram rows, and these with their sums behind them, as the draws begin
module _ (t : ℕ) (c : goal.try_draws-After-low_ones-last t) where
  abbrev pub members : List ℕ
  members = take c.args.d (rows_in_lem c.args.basis.now)

  abbrev pub summed : List ℕ
  summed = rows_in_lem c.sums.new.w

  pub space_in : (E : List ℕ) → Space E c.args.d (rows_in_lem c.args.basis.now) (rows_in_lem c.args.gram.now)
      → Space E c.args.d (rows_in_lem c.args.basis.now) summed
  space_in E sp = (sp.0 ∙ sym (sums_front c.args.d (rows_in_lem c.args.gram.now) summed c.requires.1 c.sums.ensures), sp.1)

  pub summed_long : length c.sums.new.w ≡ length c.args.gram.now
  summed_long = c.sums.auto.w

-- the sum of the Gram rows of the next coefficients
module _ (t : ℕ) (c : goal.try_draws-After-bitxor_assign t) where
  pub at_column : c.lowest.result < c.args.d
  at_column = column t (goal.at.try_draws-After-bitxor_assign t c).After-next-c c.lowest.result c.lowest.ensures

  pub sum_is : val c.bitxor_assign.new.self ≡ times (val c.next-c.result) (take c.args.d (summed t (goal.at.try_draws-After-bitxor_assign t c).After-low_ones-last))
  sum_is =
      let draws_d = c.args.d in
      let low = c.lowest in
      let at = c.loop-last in
      let G = summed t (goal.at.try_draws-After-bitxor_assign t c).After-low_ones-last in
      let G₀ = rows_in_lem c.args.gram.now in
      let o = c.sums.ensures in
      c.bitxor_assign.ensures.after
      ∙ draws_drawn t (goal.at.try_draws-After-bitxor_assign t c).After-next-c (take draws_d G) (val at.g) (val c.row.result) low.result low.ensures at.invariant.7
      (c.row.ensures ∙ front_get (draws_d + draws_d) (rows_in_lem at.gram) G at.invariant.6 (draws_d + low.result) (omega (arith, at_column)) ∙ sums_at draws_d G₀ G c.requires.1 o (omega (arith, levels_least draws_d, c.requires.3)) low.result at_column
      ∙ ap (times (2 ^ suc low.result - 1)) (sym (sums_front draws_d G₀ G c.requires.1 o)))

-- the draw tested
module _ (t : ℕ) (c : goal.try_draws-After-dot t) (E : List ℕ)
    (fit : gram_of E (members t (goal.at.try_draws-After-dot t c).After-low_ones-last) ≡ take c.args.d (summed t (goal.at.try_draws-After-dot t c).After-low_ones-last)) where
  pub tested : (let p = times (val c.next-c.result) (members t (goal.at.try_draws-After-dot t c).After-low_ones-last) in form E p p ≡ c.dot.result)
  tested =
      let x = val c.next-c.result in
      gram_self E (members t (goal.at.try_draws-After-dot t c).After-low_ones-last) (take c.args.d (summed t (goal.at.try_draws-After-dot t c).After-low_ones-last)) fit x
      ∙ ap (dot x) (sym (sum_is t (goal.at.try_draws-After-dot t c).After-bitxor_assign)) ∙ sym c.dot.ensures
