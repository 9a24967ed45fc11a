-- `drop_member` moves the members behind member j up, each changed as the complement asks, and their form rows with them, by the laws of Drops.
use mathlib.Core.Path.{◌≡◌, refl, sym, ap, ◌∙◌}
use mathlib.Core.List.{List}
use Prim.Native.Nat.{ℕ, suc, ◌+◌, ◌-◌, ◌<◌}
use lib.ListN.{length, get_or, take}
use Rattle.binar.specs.Bits.{dot}
use Rattle.binar.specs.Rows.{val}
use Rattle.blocks.specs.Matrices.{matmul}
use Rattle.blocks.specs.Words.{rows_in_lem}
use Rattle.blocks.proofs.Overs.{over_next}
use Rattle.blocks.proofs.Products.{matmul_length}
use Rattle.triangular.specs.Spaces.{complement}
use Rattle.blocks.proofs.Overs.{over_left}
use Rattle.family.proofs.Behind.{put_all}
use Rattle.family.proofs.Drops as drops
use Rattle.family.proofs.Members.{fit_length}
use native.Mathlib.Omega.{arith}
use Rattle.family.proofs.space.Space.drop_member.Goals as goal
use Rattle.family.proofs.space.Space.drop_member.Goals.{Start}

-- the members that are left
abbrev rest : (c : goal.Start) → List ℕ
rest c = complement (dot (val c.args.f)) (take c.args.self.now.d (rows_in_lem c.args.self.now.basis))

size : (c : goal.Start) → suc (length (rest c)) ≡ c.args.self.now.d
size c = drops.drop_length (val c.args.f) c.args.self.now.d c.args.j (rows_in_lem c.args.self.now.basis) c.args.self.now.within c.requires.0 c.requires.1 c.requires.2

pub loop-n-init : goal.loop-n-init
loop-n-init c =
    let s = c.args in
    let p = c.requires in
    let w = c.args.self.now.within in
    let b = rows_in_lem s.self.now.basis in (
      refl,
      drops.drop_begun (val s.f) s.self.now.d s.j b w p.0 p.1 p.2,
      λ E fit. drops.drop_rows_begun (val s.f) s.self.now.d s.j b w p.0 p.1 p.2 (rows_in_lem s.self.now.forms) E fit,
    )

pub loop-n-preserved : goal.loop-n-preserved
loop-n-preserved c =
    let s = c.args in
    let p = c.requires in
    let w = c.args.self.now.within in
    let at = c.loop-n in
    let n = at.n in
    let b = rows_in_lem s.self.now.basis in
    let g = rows_in_lem s.self.now.forms in
    let y = val c.at-y.result.member in
    let m = val c.at-m.result.member in
    let hit = c.dot-hit in
    let long = size (goal.at.loop-n-preserved c).Start in
    let more : n + 1 < s.self.now.d = omega (arith, p.0, c.loop-n-test.true) in
    let y-is : y ≡ get_or b (n + 1) 0 = c.at-y.ensures.0 ∙ over_left 0 (rest (goal.at.loop-n-preserved c).Start) b (rows_in_lem at.self.basis) n (n + 1) at.invariant.1 (omega arith) (omega arith) in (
      c.put.ensures.2 ∙ at.invariant.0,
      c.put.ensures.0
          ∙ over_next (rest (goal.at.loop-n-preserved c).Start) b (rows_in_lem at.self.basis) n (val c.added-member.result) (omega arith) (omega (arith, w)) at.invariant.1
          (drops.drop-member (val s.f) s.self.now.d s.j b w p.0 p.1 p.2 n at.auto.n more y m hit.result y-is c.at-m.ensures.0 hit.ensures
          (val c.added-member.result) c.added-member.ensures),
      λ E fit.
          let rows = matmul (rest (goal.at.loop-n-preserved c).Start) E in
          let count = matmul_length (rest (goal.at.loop-n-preserved c).Start) E in
          c.put.ensures.1
          ∙ over_next rows g (rows_in_lem at.self.forms) n (val c.added-row.result) (omega arith) (omega (arith, fit_length s.self.now.d b g E fit w)) (at.invariant.2 E fit)
          (drops.drop_row (val s.f) s.self.now.d s.j b w p.0 p.1 p.2 n at.auto.n more y m hit.result y-is c.at-m.ensures.0 hit.ensures g E fit
          (val c.at-y.result.row) (val c.at-m.result.row) (val c.added-row.result)
          (c.at-y.ensures.1 ∙ over_left 0 rows g (rows_in_lem at.self.forms) n (n + 1) (at.invariant.2 E fit) (omega arith) (omega arith)) c.at-m.ensures.1 c.added-row.ensures),
    )

pub returns : goal.returns
returns c =
    let s = c.args in
    let p = c.requires in
    let w = c.args.self.now.within in
    let at = c.loop-n in
    let b = rows_in_lem s.self.now.basis in
    let g = rows_in_lem s.self.now.forms in
    let long = size (goal.at.returns c).Start in
    let all : at.n ≡ s.self.now.d - 1 = omega (arith, p.0, at.auto.n-end) in
    let C = rest (goal.at.returns c).Start in
    let left : length C ≡ s.self.now.d - 1 = omega arith in
    let is = put_all C b (rows_in_lem at.self.basis) at.n (s.self.now.d - 1) all left at.invariant.1 in (
      refl,
      is,
      λ E fit.
          ap (λ (l : List ℕ). matmul l E) is
          ∙ sym (put_all (matmul C E) g (rows_in_lem at.self.forms) at.n (s.self.now.d - 1) all (matmul_length C E ∙ left) (at.invariant.2 E fit)),
    )
