-- `symplectic_simplex` puts the vectors of pair after pair behind those in front, and the last sum at the end, by the laws of Simplices.
use mathlib.Core.Path.{◌≡◌, refl, ap, ◌∙◌}
use mathlib.Core.List.{List}
use mathlib.Core.Option.{some}
use Prim.Native.Nat.{ℕ, ◌+◌, ◌<◌}
use lib.ListN.{length, set, take, length-set}
use lib.Seq.{length-take-le}
use Rattle.binar.specs.Bits.{◌⊕◌}
use Rattle.binar.specs.Rows.{val}
use Rattle.blocks.specs.Words.{rows_in_lem}
use Rattle.blocks.proofs.Values.{set_next}
use Rattle.residue.specs.Residue.{form}
use Rattle.family.specs.inner.Parts.{members, if_made}
use Rattle.family.proofs.Behind.{two_put}
use Rattle.family.proofs.Members.{member_is}
use Rattle.family.proofs.Simplices.{simplex_begun, simplex_done, simplex_stuck, simplex_paired, alone_by, partner_by}
use native.Mathlib.Omega.{arith}
use Rattle.family.proofs.space.Space.symplectic_simplex.Goals as goal
use Rattle.family.proofs.space.Space.symplectic_simplex.Goals.{At-loop-self}
use Rattle.family.proofs.space.Space.symplectic_simplex.Invariants.{whole}

-- as many members as there are left
size : (c : goal.At-loop-self) → length (members c.loop-self.self) ≡ c.loop-self.self.d
size c = length-take-le c.loop-self.self.d (rows_in_lem c.loop-self.self.basis) c.loop-self.self.within

pub loop-self-init : goal.loop-self-init
loop-self-init c =
    let s = c.args in
    let a = s.self.now in (
      refl,
      refl,
      λ E fit. (fit, simplex_begun (form E) a.d (take s.front (rows_in_lem s.list.now)) (members a) _ (omega (arith, length-take-le a.d (rows_in_lem a.basis) a.within)) c.zero-s.ensures),
    )

pub returns-in_err-j : goal.returns-in_err-j
returns-in_err-j c =
    let s = c.args in
    let at = c.loop-self in
    let a = at.self in
    let long = size (goal.at.returns-in_err-j c).At-loop-self in
    let pos = c.loop-self-test.true in
    λ E fit.
    let inv = at.invariant.2 E fit in
    ap (λ o. if_made o (take (s.front + s.self.now.d + 1) (rows_in_lem at.list))) c.from_residual.ensures
    ∙ simplex_stuck (form E) (whole E s.self.now s.front (rows_in_lem s.list.now)) (take at.n (rows_in_lem at.list)) (val at.s) (members a) inv.1 (omega arith)
    (λ i l p. alone_by a.d (rows_in_lem a.basis) (rows_in_lem a.forms) E inv.0 _ c.at-f.ensures.1 a.d pos (omega arith) (λ x y z. c.in_err-j.ensures x z y) i (omega arith) p)

pub loop-self-preserved : goal.loop-self-preserved
loop-self-preserved c =
    let s = c.args in
    let pre = c.requires in
    let at = c.loop-self in
    let a = at.self in
    let b = rows_in_lem a.basis in
    let g = rows_in_lem a.forms in
    let l = rows_in_lem at.list in
    let f = c.at-f in
    let j = c.in_ok-j.j in
    let found = c.in_ok-j.ensures in
    let p = c.at-p in
    let long = size (goal.at.loop-self-preserved c).At-loop-self in
    let pos : 0 < a.d = c.loop-self-test.true in
    let sums = at.invariant.0 in
    let room = at.invariant.1 in
    let rest = c.pair_rest.ensures in
    let u = val p.result.member ⊕ val at.s in
    let w = (val f.result.member ⊕ val p.result.member) ⊕ val at.s in
    let put = c.put_pair.ensures in
    let inside : at.n + 1 < length l = omega (arith, pre.1) in (
      omega (arith, rest.0),
      ap length put ∙ length-set (set l at.n u) (at.n + 1) w ∙ length-set l at.n u ∙ room,
      λ E fit.
          let inv = at.invariant.2 E fit in
          let W = whole E s.self.now s.front (rows_in_lem s.list.now) in (
            (rest.1 E inv.0).1,
            simplex_paired (form E) W (take at.n l) (val at.s) (members a) inv.1 j found.0 (omega arith)
                (alone_by a.d b g E inv.0 _ f.ensures.1 j pos (omega arith) (λ x y z. found.3 x z y)) (partner_by a.d b g E inv.0 _ f.ensures.1 j pos found.1 found.2)
                (val f.result.member) (val p.result.member) (member_is a.d b 0 pos (val f.result.member) f.ensures.0) (member_is a.d b j found.1 (val p.result.member) p.ensures.0) _ _ _
                (ap (take (at.n + 2)) put ∙ two_put l at.n u w inside) c.bitxor-s.ensures (rest.1 E inv.0).0,
          ),
    )

pub returns : goal.returns
returns c =
    let s = c.args in
    let at = c.loop-self in
    let l = rows_in_lem at.list in
    let sums = at.invariant.0 in
    let k = s.self.now.d in
    let e : s.front + k + 1 ≡ at.n + 1 = omega arith in
    let inside : at.n < length l = omega (arith, at.invariant.1, c.requires.1) in
    λ E fit.
    ap (λ (x : List ℕ). some (take (s.front + k + 1) x)) c.put.ensures ∙ ap (λ (x : ℕ). some (take x (set l at.n (val at.s)))) e
    ∙ ap some (set_next l at.n (val at.s) inside)
    ∙ simplex_done (form E) (whole E s.self.now s.front (rows_in_lem s.list.now)) (take at.n l) (val at.s) (members at.self) (at.invariant.2 E fit).1
    (omega (arith, size (goal.at.returns c).At-loop-self))
