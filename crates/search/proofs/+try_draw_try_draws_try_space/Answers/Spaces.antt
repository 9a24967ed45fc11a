-- What `try_space` asks, and what its draws tell.
use mathlib.Core.Path.{◌≡◌, sym, ap, ◌∙◌, subst}
use mathlib.Core.List.{List}
use Prim.Native.Nat.{ℕ, ◌+◌, ◌-◌, ◌≤◌, ◌<◌, ◌^◌}
use lib.ListN.{length, take}
use Rattle.binar.specs.Rows.{width}
use Rattle.blocks.specs.Matrices.{All}
use Rattle.blocks.specs.Words.{rows_in_lem}
use Rattle.triangular.specs.Memory.{Entry, search_with, entry_basis, holds, draws_with}
use Rattle.memory.specs.Entries.{room_in}
use Rattle.search.specs.inner.Reports.{Space, Carries, Reports}
use native.Mathlib.Omega.{arith}
use Rattle.blocks.proofs.Lent.{lent_same}
use Rattle.residue.specs.Residue.{form}
use Rattle.triangular.specs.Spaces.{is_alternating_lem}
use Rattle.spaces.specs.Levels.{gram_of}
use Rattle.search.specs.inner.Levels.{found_in}
use Rattle.search.proofs.LentLevels.{levels_least}
use borrow.Author.Rules.{rules}
use lib.Seq.{length-take-le}
use Rattle.triangular.proofs.Entries.{reduced_size, reduced_within}
use Rattle.memory.specs.inner.Kept.{Fits}
use Rattle.search.specs.declared.Asked.{Asked}
use Rattle.search.specs.declared.Asked.TheVariants.{Open}
use Rattle.search.specs.inner.Asked.{Known}
use Rattle.search.proofs.+try_draw_try_draws_try_space.Goals as goal
use Rattle.search.proofs.+try_draw_try_draws_try_space.Goals.{try_draw-After-is_alternating, try_draw-After-start-b, try_draws-After-dot, try_draws-After-low_ones-last, try_draws-After-next-c, try_draws-After-bitxor_assign, try_draws-After-try_draw-o, try_space-After-ask, try_space-After-try_draws-o}

-- the space is asked of
module _ (t : ℕ) (c : goal.try_space-After-ask t) where
  abbrev pub space_d : ℕ
  space_d = c.args.d

  abbrev pub B : List ℕ
  B = take c.args.d (rows_in_lem c.args.basis.now)

  abbrev pub space_room : ℕ
  space_room = room_in c.args.memory.now

  -- what the answer says of it
  pub known : (x : Asked) → c.ask.result ≡ x → (E : List ℕ) (M : List Entry) → Space E space_d (rows_in_lem c.args.basis.now) (rows_in_lem c.args.gram.now) → Carries c.args.looks c.args.memory.now c.args.used M
      → Known x (holds space_d (entry_basis width B) M) (is_alternating_lem (form E) B)
  known x is E M sp ca = subst (λ y. Known y (holds space_d (entry_basis width B) M) (is_alternating_lem (form E) B)) is (c.ask.ensures.3 E M sp.0 ca.0)

  -- its reduced basis
  pub size : length (entry_basis width B) ≡ space_d
  size = reduced_size width B ∙ length-take-le space_d (rows_in_lem c.args.basis.now) (omega (arith, levels_least space_d, c.requires.2))

  pub fits : All (λ v. v < 2 ^ width) B → Fits (entry_basis width B)
  fits small = (omega (arith, size, c.requires.1), reduced_within width B width small)

  -- the space as it is then
  pub again : (E : List ℕ) → Space E space_d (rows_in_lem c.args.basis.now) (rows_in_lem c.args.gram.now) → Space E space_d (rows_in_lem c.ask.new.basis) (rows_in_lem c.ask.new.gram)
  again E sp = (ap (gram_of E) c.ask.ensures.0 ∙ sp.0 ∙ sym c.ask.ensures.1, subst (All (λ v. v < 2 ^ width)) (sym c.ask.ensures.0) sp.1)

  pub in_basis : space_d + space_d ≤ length (rows_in_lem c.ask.new.basis)
  in_basis = omega (arith, lent_same c.ask.new.basis c.args.basis.now c.ask.auto.basis, levels_least space_d, c.requires.2)

-- its draws were taken
module _ (t : ℕ) (c : goal.try_space-After-try_draws-o t) where
  pub open_is : c.ask.result ≡ Open
  open_is = search (rules, c.in-Open.is)

  pub space_came : (E : List ℕ) (M : List Entry) → Space E (space_d t (goal.at.try_space-After-try_draws-o t c).After-ask) (rows_in_lem c.args.basis.now) (rows_in_lem c.args.gram.now) → Carries c.args.looks c.args.memory.now c.args.used M
      → Reports c.args.budget (draws_with (form E) width (space_room t (goal.at.try_space-After-try_draws-o t c).After-ask) (search_with (form E) width (space_room t (goal.at.try_space-After-try_draws-o t c).After-ask) (space_d t (goal.at.try_space-After-try_draws-o t c).After-ask - 1)) (B t (goal.at.try_space-After-try_draws-o t c).After-ask) (2 ^ space_d t (goal.at.try_space-After-try_draws-o t c).After-ask - 1) 1 c.args.looks M)
      c.try_draws-o.result.ending c.try_draws-o.result.looks (found_in (space_d t (goal.at.try_space-After-try_draws-o t c).After-ask) (rows_in_lem c.try_draws-o.new.basis)) c.try_draws-o.new.memory c.try_draws-o.result.used
  space_came E M sp ca =
      subst (λ (l : List ℕ). Reports c.args.budget (draws_with (form E) width (space_room t (goal.at.try_space-After-try_draws-o t c).After-ask) (search_with (form E) width (space_room t (goal.at.try_space-After-try_draws-o t c).After-ask) (space_d t (goal.at.try_space-After-try_draws-o t c).After-ask - 1)) l (2 ^ space_d t (goal.at.try_space-After-try_draws-o t c).After-ask - 1) 1 c.args.looks M)
      c.try_draws-o.result.ending c.try_draws-o.result.looks (found_in (space_d t (goal.at.try_space-After-try_draws-o t c).After-ask) (rows_in_lem c.try_draws-o.new.basis)) c.try_draws-o.new.memory c.try_draws-o.result.used)
      c.ask.ensures.0 (c.try_draws-o.ensures.3 E M (again t (goal.at.try_space-After-try_draws-o t c).After-ask E sp) ca)

  pub in_draws : space_d t (goal.at.try_space-After-try_draws-o t c).After-ask + space_d t (goal.at.try_space-After-try_draws-o t c).After-ask ≤ length (rows_in_lem c.try_draws-o.new.basis)
  in_draws = omega (arith, lent_same c.try_draws-o.new.basis c.ask.new.basis c.try_draws-o.auto.basis, in_basis t (goal.at.try_space-After-try_draws-o t c).After-ask)
