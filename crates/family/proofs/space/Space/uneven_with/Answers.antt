-- `uneven_with` passes the members that are even with member i, by `uneven_with_skip`.
use mathlib.Core.Path.{◌≡◌, sym, ap, ap₂, ◌∙◌}
use mathlib.Core.List.{List}
use Prim.Native.Nat.{ℕ, ◌+◌, ◌≤◌, ◌<◌}
use lib.ListN.{length, get_or, take, drop}
use lib.Seq.{length-take-le}
use Rattle.binar.specs.Bits.{◌⊻◌, ◌⊕◌}
use Rattle.binar.specs.Rows.{val}
use Rattle.blocks.specs.Matrices.{matmul}
use Rattle.blocks.specs.Words.{rows_in_lem}
use Rattle.residue.specs.Residue.{form}
use Rattle.symplectic.specs.Picks.{map_some, uneven_with_lem}
use Rattle.symplectic.proofs.FirstPicks.{uneven_with_skip, uneven_with_here, uneven_with_end}
use Rattle.family.specs.inner.Parts.{beside_row}
use Rattle.family.proofs.Members.{differ, member_is, row_is, member_form, sum_picked}
use native.Mathlib.Omega.{arith}
use Rattle.family.proofs.space.Space.uneven_with.Goals as goal
use Rattle.family.proofs.space.Space.uneven_with.Goals.{After-dot-in-loop-j, Start}

size : (c : goal.Start) → length (take c.args.self.now.d (rows_in_lem c.args.self.now.basis)) ≡ c.args.self.now.d
size c = length-take-le c.args.self.now.d (rows_in_lem c.args.self.now.basis) c.args.self.now.within

-- the two forms of member i and member j, as they are tested
tested : (c : goal.After-dot-in-loop-j) (E : List ℕ)
    → matmul (take c.args.self.now.d (rows_in_lem c.args.self.now.basis)) E ≡ take c.args.self.now.d (rows_in_lem c.args.self.now.forms)
    → (form E (get_or (take c.args.self.now.d (rows_in_lem c.args.self.now.basis)) c.args.i 0) (get_or (take c.args.self.now.d (rows_in_lem c.args.self.now.basis)) c.loop-j.j 0)
    ⊻ form E (get_or (take c.args.self.now.d (rows_in_lem c.args.self.now.basis)) c.loop-j.j 0) (get_or (take c.args.self.now.d (rows_in_lem c.args.self.now.basis)) c.args.i 0))
    ≡ (c.dot.result ⊻ c.dot-in-loop-j.result)
tested c E fit =
    let s = c.args in
    let at = c.loop-j in
    let b = rows_in_lem s.self.now.basis in
    let f = rows_in_lem s.self.now.forms in
    let x = c.at-b in
    let y = c.at-y in
    let h : at.j < s.self.now.d = omega arith in
    let hi : s.i < s.self.now.d = c.requires in
    ap₂ ◌⊻◌
    (member_form s.self.now.d b f E fit s.i at.j hi h (val x.result.row) (val y.result.member) x.ensures.1 y.ensures.0 c.dot.result c.dot.ensures)
    (member_form s.self.now.d b f E fit at.j s.i h hi (val y.result.row) (val x.result.member) y.ensures.1 x.ensures.0 c.dot-in-loop-j.result c.dot-in-loop-j.ensures)

pub returns-then-dot : goal.returns-then-dot
returns-then-dot c =
    let s = c.args in
    let at = c.loop-j in
    let b = rows_in_lem s.self.now.basis in
    let f = rows_in_lem s.self.now.forms in
    let x = c.at-b in
    let y = c.at-y in
    let h : at.j < s.self.now.d = omega arith in
    let hi : s.i < s.self.now.d = c.requires in
    let inside : at.j < length (take s.self.now.d b) = omega (arith, size (goal.at.returns-then-dot c).Start) in
    let u = get_or (take s.self.now.d b) s.i 0 in
    let v = get_or (take s.self.now.d b) at.j 0 in
    λ E fit. sum_picked E (val c.bitxor-member.result) (val c.bitxor-row.result) u v (val x.result.row) (val y.result.row)
    (uneven_with_lem ◌⊕◌ (form E) u (drop (s.i + 1) (take s.self.now.d b)))
    (c.bitxor-member.ensures ∙ ap₂ ◌⊕◌ (member_is s.self.now.d b s.i hi (val x.result.member) x.ensures.0) (member_is s.self.now.d b at.j h (val y.result.member) y.ensures.0))
    c.bitxor-row.ensures (row_is s.self.now.d b f E fit s.i hi (val x.result.row) x.ensures.1) (row_is s.self.now.d b f E fit at.j h (val y.result.row) y.ensures.1)
    (sym (at.invariant E fit)
    ∙ uneven_with_here ◌⊕◌ (form E) (take s.self.now.d b) 0 u at.j inside
    (tested (goal.at.returns-then-dot c).After-dot-in-loop-j E fit ∙ sym (differ c.dot.result c.dot-in-loop-j.result) ∙ c.if-dot.true))

pub loop-j-preserved : goal.loop-j-preserved
loop-j-preserved c =
    let s = c.args in
    let at = c.loop-j in
    let B = take s.self.now.d (rows_in_lem s.self.now.basis) in
    let inside : at.j < length B = omega (arith, size (goal.at.loop-j-preserved c).Start) in
    λ E fit.
    sym (uneven_with_skip ◌⊕◌ (form E) B 0 (get_or B s.i 0) at.j inside (tested (goal.at.loop-j-preserved c).After-dot-in-loop-j E fit ∙ sym (differ c.dot.result c.dot-in-loop-j.result) ∙ c.if-dot.false))
    ∙ at.invariant E fit

pub returns : goal.returns
returns c =
    let s = c.args in
    let at = c.loop-j in
    let B = take s.self.now.d (rows_in_lem s.self.now.basis) in
    let past : length B ≤ at.j = omega (arith, size (goal.at.returns c).Start) in
    λ E fit. ap (map_some (beside_row E)) (sym (uneven_with_end ◌⊕◌ (form E) B 0 (get_or B s.i 0) at.j past) ∙ at.invariant E fit)
