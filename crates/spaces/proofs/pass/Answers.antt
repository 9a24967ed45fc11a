-- `pass` puts each row behind its level as `passed_at` says, made into another.
use mathlib.Core.Path.{◌≡◌, refl, sym, ap, ◌∙◌}
use mathlib.Core.List.{map}
use Prim.Native.Nat.{ℕ, ◌+◌, ◌-◌, ◌<◌}
use native.Mathlib.Nat.{add-zero, zero-add}
use native.Mathlib.Omega.{arith}
use lib.ListN.{get_or, take}
use Rattle.binar.specs.Bits.{bit}
use Rattle.binar.specs.Rows.{val}
use Rattle.blocks.specs.Words.{rows_in_lem}
use Rattle.spaces.specs.Levels.{below, over_from, passed_at}
use Rattle.spaces.proofs.Behind.{from_start, from_next, from_end, from_before}
use Rattle.spaces.proofs.Rows.{passed_is, digit_next}
use Rattle.spaces.proofs.Levels.{counted_is, passed_none}
use borrow.Author.Rules.{rules}
use Rattle.spaces.proofs.pass.Goals as goal

pub returns-then-d-gt-WIDTH : goal.returns-then-d-gt-WIDTH
returns-then-d-gt-WIDTH g c = let s = c.args in passed_none s.d (rows_in_lem s.w.now) c.if-d-gt-WIDTH.true (val s.h) s.j g.f

pub loop-n-init : goal.loop-n-init
loop-n-init g c =
    let s = c.args in
    let d = s.d in
    let R = rows_in_lem s.w.now in
    (search rules, search rules, refl, from_start (d + d) (λ i. g.f (passed_at (val s.h) s.j (take d R) i)) (d - 1) R, c.row-x.ensures, λ t. ap (λ n. bit n (val s.h)) (sym (zero-add t)))

pub loop-n-preserved : goal.loop-n-preserved
loop-n-preserved g c =
    let at = c.loop-n in
    let s = c.args in
    let d = s.d in
    let R = rows_in_lem s.w.now in
    let f : ℕ → ℕ = λ i. g.f (passed_at (val s.h) s.j (take d R) i) in
    let i = at.n - 1 in
    let l : at.n < d = search rules in
    let here : i + 1 ≡ at.n = omega (arith, at.invariant.0) in
    let next : i + 1 ≡ at.n + 1 - 1 = omega (arith, here) in
    let u : val c.row-u.result ≡ get_or R at.n 0 = c.row-u.ensures ∙ ap (λ w. get_or w at.n 0) at.invariant.3 ∙ from_before (d + d) (take i (map f (below (d - 1)))) R at.n (omega (arith, l)) in
    let digit = digit_next (val s.h) (val at.r) (val c.shift_down-r.result) i at.invariant.5 c.shift_down-r.ensures in
    let passed = passed_is (val s.h) s.j d R (val c.row-m.result) i (omega (arith, here, l)) c.row-m.ensures (val at.x) (val c.row-u.result) at.invariant.4 (u ∙ ap (λ n. get_or R n 0) (sym here))
    c.bit.result (c.bit.ensures ∙ digit 0 ∙ ap (λ n. bit n (val s.h)) (add-zero (i + 1))) (val c.passed-v.result) c.passed-v.ensures in (
      search rules,
      omega (arith, l),
      search rules,
      c.put.ensures
          ∙ from_next (d + d) f (d - 1) R (rows_in_lem at.w) i (val c.made.result) (omega (arith, here, l)) at.invariant.3 (c.requires.1.1 _ _ c.made.ensures ∙ ap g.f passed)
          ∙ ap (λ n. over_from (d + d) (take n (map f (below (d - 1)))) R) next,
      u ∙ ap (λ n. get_or R n 0) (sym here ∙ next),
      λ t. digit t ∙ ap (λ n. bit (n + t) (val s.h)) next,
    )

pub returns : goal.returns
returns g c =
    let at = c.loop-n in
    let s = c.args in
    let d = s.d in
    let R = rows_in_lem s.w.now in
    at.invariant.3 ∙ from_end (d + d) (λ i. g.f (passed_at (val s.h) s.j (take d R) i)) (d - 1) R (at.n - 1) (omega arith) ∙ sym (ap (λ n. over_from (n + n) (map (λ i. g.f (passed_at (val s.h) s.j (take n R) i)) (below (n - 1))) R) (counted_is d c.if-d-gt-WIDTH.false))
