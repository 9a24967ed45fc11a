-- `is_alternating` passes the members one by one, by the laws of `Alternates`.
use mathlib.Core.Path.{sym, ap, ap₂, ◌∙◌}
use mathlib.Core.Bool.{◌&&◌}
use Prim.Native.Nat.{◌<◌}
use native.Mathlib.Omega.{arith}
use lib.Dec.{ltb}
use lib.Seq.{take_all}
use Rattle.blocks.specs.Words.{rows_in_lem}
use Rattle.triangular.specs.Spaces.{is_alternating_lem, symmetric_with}
use Rattle.triangular.proofs.Alternates.{alternating_start, alternating_next}
use Rattle.spaces.specs.Levels.{below, form_in}
use Rattle.spaces.proofs.Behind.{below_length, below_at, below_front}
use borrow.Author.Rules.{rules}
use Rattle.spaces.proofs.is_alternating.Goals as goal

pub loop-member-init : goal.loop-member-init
loop-member-init c = alternating_start (form_in (rows_in_lem c.args.gram.now)) (below c.args.d)

pub loop-member-preserved : goal.loop-member-preserved
loop-member-preserved c =
    let E = form_in (rows_in_lem c.args.gram.now) in
    let d = c.args.d in
    let i = c.loop-member.member in
    let h : i < d = search rules in
    let at = below_at d i h in
    let k = c.alternates.ensures.passes c.if-not-alternates.false in
    alternating_next E (below d) i c.loop-member.invariant (omega (arith, h, below_length d)) (ap₂ E at at ∙ k.1) (ap₂ (symmetric_with E) at (below_front i d (omega arith)) ∙ k.0)

pub returns : goal.returns
returns c =
    let d = c.args.d in
    let E = form_in (rows_in_lem c.args.gram.now) in
    ap (λ t. t && ltb 0 d) (sym c.loop-member.invariant ∙ ap (is_alternating_lem E) (take_all c.loop-member.member (below d) (omega (arith, below_length d))))
