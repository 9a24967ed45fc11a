-- `times` adds the rows of the ones of c, lowest first: what is added and what is left make the whole, by `times_next`.
use mathlib.Core.Bool.{true, false}
use lib.Pow.{pow_pos}
use native.Mathlib.Nat.{mod-lt}
use Prim.Native.Nat.{◌%◌, ℕ, ◌^◌, ◌<◌}
use mathlib.Core.Path.{subst, ◌≡◌, sym, ap, ap₂, ◌∙◌}
use lib.ListN.{length}
use native.Mathlib.Omega.{arith}
use Rattle.blocks.proofs.Products.{lowest_row, times_next, times_done, times_low}
use Rattle.binar.proofs.Ones.{unit_is}
use Rattle.binar.proofs.Widths.{val_lt}
use Rattle.binar.proofs.Sums.{zero_sum}
use Rattle.binar.specs.Rows.{lowest, val, width}
use Rattle.blocks.specs.Words.{rows_in_lem}
use Rattle.blocks.specs.Matrices.{times}
use Rattle.binar.specs.Bits.{◌⊕◌}
use borrow.Author.Tests.{eqb-true}
use borrow.Author.Rules.{rules}
use Rattle.matrices.proofs.times.Goals as goal
use Rattle.matrices.proofs.times.Goals.{After-bitxor_assign-in-loop-bits, In-loop-bits}

-- the lowest one of what is left
low : (c : goal.In-loop-bits)
    → (lowest (val c.loop-bits.bits) < width) × (lowest (val c.loop-bits.bits) < length (rows_in_lem c.args.w.now))
    × (val c.loop-bits.bits ⊕ 2 ^ lowest (val c.loop-bits.bits) < val c.loop-bits.bits)
low c =
    let at = c.loop-bits in
    let off : c.is_zero.result ≡ false = c.loop-bits-test.true in
    lowest_row (length (rows_in_lem c.args.w.now)) (val at.bits) (sym c.is_zero.ensures ∙ off) at.invariant.0 at.invariant.1

-- what is left once it is taken out
out : (c : goal.After-bitxor_assign-in-loop-bits) → val c.bitxor_assign-in-loop-bits.new.self ≡ val c.loop-bits.bits ⊕ 2 ^ c.lowest-t.result
out c =
    let t = c.lowest-t.result in
    let e : t ≡ lowest (val c.loop-bits.bits) = c.lowest-t.ensures in
    c.bitxor_assign-in-loop-bits.ensures.after ∙ ap (λ (x : ℕ). val c.loop-bits.bits ⊕ x) (c.unit.ensures ∙ unit_is t (subst (λ (x : ℕ). x < width) (sym e) (low (goal.at.After-bitxor_assign-in-loop-bits c).In-loop-bits).0))

less : (c : goal.After-bitxor_assign-in-loop-bits) → val c.bitxor_assign-in-loop-bits.new.self < val c.loop-bits.bits
less c =
    let x = val c.loop-bits.bits in
    subst (λ (y : ℕ). y < x) (sym (out c ∙ ap (λ (t : ℕ). x ⊕ 2 ^ t) c.lowest-t.ensures)) (low (goal.at.After-bitxor_assign-in-loop-bits c).In-loop-bits).2

pub loop-bits-init : goal.loop-bits-init
loop-bits-init c =
    let s = c.args in
    let rows = rows_in_lem s.w.now in
    let e = c.low-bits.ensures ∙ ap (λ (k : ℕ). val s.c % 2 ^ k) c.rows_in.ensures in (
      search (rules, val_lt),
      subst (λ (x : ℕ). x < 2 ^ length rows) (sym e) (mod-lt (val s.c) (pow_pos (length rows))),
      ap (λ (x : ℕ). x ⊕ times (val c.low-bits.result) rows) c.zero-s.ensures ∙ zero_sum (times (val c.low-bits.result) rows),
    )

pub loop-bits-smaller : goal.loop-bits-smaller
loop-bits-smaller c =
    omega (arith, less c)

pub loop-bits-preserved : goal.loop-bits-preserved
loop-bits-preserved c =
    let s = c.args in
    let at = c.loop-bits in
    let t = c.lowest-t.result in
    let rows = rows_in_lem s.w.now in
    let h = less c in (
      omega (arith, at.invariant.0),
      omega (arith, at.invariant.1),
      ap₂ (λ (x y : ℕ). x ⊕ times y rows)
          (c.bitxor_assign.ensures.after ∙ ap (λ (x : ℕ). val at.s ⊕ x) c.row.ensures)
          (out c)
          ∙ times_next rows t (val at.s) (val at.bits) (times (val c.low-bits.result) rows) at.invariant.2,
    )

pub returns : goal.returns
returns c =
    let s = c.args in
    let at = c.loop-bits in
    let rows = rows_in_lem s.w.now in
    let on : c.is_zero.result ≡ true = c.loop-bits-test.false in
    let z = eqb-true (val at.bits) 0 (sym c.is_zero.ensures ∙ on) in
    times_done rows (val at.s) (val at.bits) (times (val c.low-bits.result) rows) z at.invariant.2
    ∙ ap (λ (x : ℕ). times x rows) (c.low-bits.ensures ∙ ap (λ (k : ℕ). val s.c % 2 ^ k) c.rows_in.ensures) ∙ times_low rows (val s.c)
