-- `first_one` passes the members with form zero with themselves, by `first_one_skip`.
use mathlib.Core.Path.{◌≡◌, sym, ap, ◌∙◌}
use Prim.Native.Nat.{◌≤◌, ◌<◌}
use lib.ListN.{length, get_or, take}
use lib.Seq.{length-take-le}
use Rattle.binar.specs.Bits.{◌⊕◌}
use Rattle.binar.specs.Rows.{val}
use Rattle.blocks.specs.Words.{rows_in_lem}
use Rattle.residue.specs.Residue.{form}
use Rattle.symplectic.specs.Picks.{map_some, first_one_lem}
use Rattle.symplectic.proofs.FirstPicks.{first_one_skip, first_one_here, first_one_end}
use Rattle.family.specs.inner.Parts.{beside_row}
use Rattle.family.proofs.Members.{member_is, row_is, member_form, vector_picked}
use native.Mathlib.Omega.{arith}
use Rattle.family.proofs.space.Space.first_one.Goals as goal
use Rattle.family.proofs.space.Space.first_one.Goals.{Start}

size : (c : goal.Start) → length (take c.args.self.now.d (rows_in_lem c.args.self.now.basis)) ≡ c.args.self.now.d
size c = length-take-le c.args.self.now.d (rows_in_lem c.args.self.now.basis) c.args.self.now.within

pub returns-then-dot : goal.returns-then-dot
returns-then-dot c =
    let s = c.args in
    let at = c.loop-i in
    let b = rows_in_lem s.self.now.basis in
    let f = rows_in_lem s.self.now.forms in
    let p = c.at-p in
    let h : at.i < s.self.now.d = omega arith in
    let inside : at.i < length (take s.self.now.d b) = omega (arith, size (goal.at.returns-then-dot c).Start) in
    λ E fit. vector_picked E (val p.result.member) (val p.result.row) (get_or (take s.self.now.d b) at.i 0) (first_one_lem ◌⊕◌ (form E) (take s.self.now.d b))
    (member_is s.self.now.d b at.i h (val p.result.member) p.ensures.0) (row_is s.self.now.d b f E fit at.i h (val p.result.row) p.ensures.1)
    (sym (at.invariant E fit)
    ∙ first_one_here ◌⊕◌ (form E) (take s.self.now.d b) 0 at.i inside
    (member_form s.self.now.d b f E fit at.i at.i h h (val p.result.row) (val p.result.member) p.ensures.1 p.ensures.0 c.dot.result c.dot.ensures ∙ c.if-dot.true))

pub loop-i-preserved : goal.loop-i-preserved
loop-i-preserved c =
    let s = c.args in
    let at = c.loop-i in
    let b = rows_in_lem s.self.now.basis in
    let f = rows_in_lem s.self.now.forms in
    let p = c.at-p in
    let h : at.i < s.self.now.d = omega arith in
    let inside : at.i < length (take s.self.now.d b) = omega (arith, size (goal.at.loop-i-preserved c).Start) in
    λ E fit.
    sym (first_one_skip ◌⊕◌ (form E) (take s.self.now.d b) 0 at.i inside
    (member_form s.self.now.d b f E fit at.i at.i h h (val p.result.row) (val p.result.member) p.ensures.1 p.ensures.0 c.dot.result c.dot.ensures ∙ c.if-dot.false))
    ∙ at.invariant E fit

pub returns : goal.returns
returns c =
    let s = c.args in
    let at = c.loop-i in
    let B = take s.self.now.d (rows_in_lem s.self.now.basis) in
    let past : length B ≤ at.i = omega (arith, size (goal.at.returns c).Start) in
    λ E fit. ap (map_some (beside_row E)) (sym (first_one_end ◌⊕◌ (form E) B 0 at.i past) ∙ at.invariant E fit)
