-- `dots` sets column after column, by `dots_next`.
use mathlib.Core.Path.{◌≡◌, sym, ap, ap₂, ◌∙◌}
use mathlib.Core.Bool.{Bool}
use Prim.Native.Nat.{ℕ, ◌<◌}
use lib.ListN.{length}
use Rattle.binar.specs.Bits.{select, dot, ◌⊕◌}
use Rattle.binar.specs.Rows.{val}
use Rattle.binar.proofs.Ones.{unit_is}
use Rattle.blocks.specs.Words.{rows_in_lem}
use Rattle.blocks.proofs.Products.{dots_nil}
use Rattle.residue.proofs.Loops.{dots_next}
use native.Mathlib.Omega.{arith}
use Rattle.residue.proofs.dots.Goals as goal
use Rattle.residue.proofs.dots.Goals.{After-zero-s}

-- the loop goes over all k rows
whole : (c : goal.After-zero-s) → c.min-m.result ≡ c.args.k
whole c = omega (arith, c.min-m.ensures, c.min.ensures, c.rows_in.ensures, c.requires.0, c.requires.1)

pub loop-i-init : goal.loop-i-init
loop-i-init c = c.zero-s.ensures ∙ sym (dots_nil (val c.args.v))

pub loop-i-preserved : goal.loop-i-preserved
loop-i-preserved c =
    let at = c.loop-i in
    let s = c.args in
    let rows = rows_in_lem s.w.now in
    let inside : at.i < s.k = omega (arith, whole (goal.at.loop-i-preserved c).After-zero-s) in
    let h : at.i < length rows = omega (arith, inside, c.requires.1) in
    let unit = c.unit.ensures ∙ unit_is at.i (omega (arith, inside, c.requires.0)) in
    let on = c.dot.ensures ∙ ap (dot (val s.v)) c.row.ensures in
    c.added-s.ensures ∙ ap₂ ◌⊕◌ at.invariant (ap₂ (λ (b : Bool) (u : ℕ). select 0 b u) on unit) ∙ sym (dots_next rows at.i (val s.v) h)
