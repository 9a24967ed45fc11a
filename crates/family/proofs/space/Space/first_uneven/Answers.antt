-- `first_uneven` passes the members that are even with all behind them, by `first_uneven_skip`.
use mathlib.Core.Path.{◌≡◌, sym, ap, ◌∙◌}
use Prim.Native.Nat.{◌+◌, ◌≤◌, ◌<◌}
use lib.ListN.{length, get_or, take, drop}
use lib.Seq.{length-take-le}
use Rattle.binar.specs.Bits.{◌⊕◌}
use Rattle.binar.specs.Rows.{val}
use Rattle.blocks.specs.Words.{rows_in_lem}
use Rattle.residue.specs.Residue.{form}
use Rattle.symplectic.specs.Picks.{map_some, uneven_with_lem}
use Rattle.symplectic.proofs.FirstPicks.{first_uneven_skip, first_uneven_here, first_uneven_end}
use Rattle.family.specs.inner.Parts.{beside_row}
use Rattle.family.proofs.Members.{picked_vector, picked_nothing}
use native.Mathlib.Omega.{arith}
use Rattle.family.proofs.space.Space.first_uneven.Goals as goal
use Rattle.family.proofs.space.Space.first_uneven.Goals.{Start}

size : (c : goal.Start) → length (take c.args.self.now.d (rows_in_lem c.args.self.now.basis)) ≡ c.args.self.now.d
size c = length-take-le c.args.self.now.d (rows_in_lem c.args.self.now.basis) c.args.self.now.within

pub returns-in-Some : goal.returns-in-Some
returns-in-Some c =
    let s = c.args in
    let at = c.loop-i in
    let B = take s.self.now.d (rows_in_lem s.self.now.basis) in
    let p = c.in-Some in
    let inside : at.i < length B = omega (arith, size (goal.at.returns-in-Some c).Start) in
    λ E fit.
    let w = uneven_with_lem ◌⊕◌ (form E) (get_or B at.i 0) (drop (at.i + 1) B) in
    let found = (picked_vector E p.p w (p.ensures E fit)).0 in
    p.ensures E fit
    ∙ ap (map_some (beside_row E)) (found ∙ sym (first_uneven_here ◌⊕◌ (form E) B 0 at.i (val p.p.member) inside found) ∙ at.invariant E fit)

pub loop-i-preserved : goal.loop-i-preserved
loop-i-preserved c =
    let s = c.args in
    let at = c.loop-i in
    let B = take s.self.now.d (rows_in_lem s.self.now.basis) in
    let inside : at.i < length B = omega (arith, size (goal.at.loop-i-preserved c).Start) in
    λ E fit.
    let w = uneven_with_lem ◌⊕◌ (form E) (get_or B at.i 0) (drop (at.i + 1) B) in
    sym (first_uneven_skip ◌⊕◌ (form E) B 0 at.i inside (picked_nothing E w (c.in_default.ensures E fit))) ∙ at.invariant E fit

pub returns : goal.returns
returns c =
    let s = c.args in
    let at = c.loop-i in
    let B = take s.self.now.d (rows_in_lem s.self.now.basis) in
    let past : length B ≤ at.i = omega (arith, size (goal.at.returns c).Start) in
    λ E fit. ap (map_some (beside_row E)) (sym (first_uneven_end ◌⊕◌ (form E) B 0 at.i past) ∙ at.invariant E fit)
