-- `sums` puts the sum of the first rows behind them, by `summed_more`.
use mathlib.Core.Path.{refl, sym, ap, ap₂, ◌∙◌}
use mathlib.Core.List.{map}
use Prim.Native.Nat.{◌-◌, ◌^◌, ◌<◌}
use native.Mathlib.Numerals.{add-one}
use lib.ListN.{get_or, take}
use lib.Seq.{get_or-take}
use Rattle.binar.specs.Bits.{◌⊕◌}
use Rattle.binar.specs.Rows.{val}
use Rattle.blocks.specs.Matrices.{times}
use Rattle.blocks.specs.Words.{rows_in_lem}
use Rattle.blocks.proofs.Products.{times_zero}
use Rattle.spaces.specs.Levels.{below, sum_to, summed}
use Rattle.spaces.proofs.Behind.{from_start, from_next, from_end, from_before}
use Rattle.spaces.proofs.Rows.{summed_more, sum_is}
use Rattle.spaces.proofs.Levels.{counted_is, sums_none}
use borrow.Author.Rules.{rules}
use Rattle.spaces.proofs.sums.Goals as goal

pub returns-then-d-gt-WIDTH : goal.returns-then-d-gt-WIDTH
returns-then-d-gt-WIDTH c = let s = c.args in sums_none s.d (rows_in_lem s.w.now) c.if-d-gt-WIDTH.true

pub loop-i-init : goal.loop-i-init
loop-i-init c =
    let d = c.args.d in
    let R = rows_in_lem c.args.w.now in
    (search rules, refl, from_start d (sum_to (take d R)) d R, c.zero-s.ensures ∙ sym (times_zero (take d R)))

pub loop-i-preserved : goal.loop-i-preserved
loop-i-preserved c =
    let at = c.loop-i in
    let d = c.args.d in
    let R = rows_in_lem c.args.w.now in
    let M = take d R in
    let rows = map (sum_to M) (below d) in
    let l : at.i < d = search rules in
    let read = c.row.ensures ∙ ap (λ w. get_or w at.i 0) at.invariant.2 ∙ from_before d (take at.i rows) R at.i l ∙ sym (get_or-take d R at.i 0 l) in
    let sum = c.bitxor_assign.ensures.after ∙ ap₂ ◌⊕◌ at.invariant.3 read ∙ summed_more M at.i in (
      search rules,
      search rules,
      c.put.ensures ∙ from_next d (sum_to M) d R (rows_in_lem at.w) at.i (val c.bitxor_assign.new.self) l at.invariant.2 (sum ∙ sym (sum_is M at.i)),
      sum ∙ ap (λ n. times (2 ^ n - 1) M) (sym (add-one at.i)),
    )

pub returns : goal.returns
unfolding summed
returns c =
    let at = c.loop-i in
    let d = c.args.d in
    let R = rows_in_lem c.args.w.now in
    at.invariant.2 ∙ from_end d (sum_to (take d R)) d R at.i (search rules) ∙ sym (ap (λ n. summed n R) (counted_is d c.if-d-gt-WIDTH.false))
