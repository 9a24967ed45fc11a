-- `by_columns` does column after column, by `columns_step`; where every row has its pivot the others change nothing, by `columns_full`.
use mathlib.Core.Path.{sym, ◌∙◌}
use mathlib.Core.List.{zip}
use Prim.Native.Nat.{◌-◌}
use lib.ListN.{take, drop_of_length-le}
use Rattle.binar.specs.Bits.{bit}
use Rattle.blocks.specs.Words.{rows_in_lem}
use Rattle.symplectic.specs.Picks.{add_both}
use Rattle.reduction.specs.inner.Sweeps.{halves}
use Rattle.reduction.proofs.Columns.{columns_full}
use Rattle.reduction.proofs.Flat.{columns_step, columns_done}
use Rattle.reduction.proofs.Loops.{behind_kept}
use Rattle.reduction.proofs.TwoLists.{zip_length}
use Rattle.blocks.proofs.Lent.{lent_same}
use native.Mathlib.Omega.{arith}
use Rattle.reduction.proofs.by_columns.Goals as goal

pub returns-then-p-k : goal.returns-then-p-k
returns-then-p-k c =
    let at = c.loop-c in
    let s = c.args in
    let R = rows_in_lem at.a in
    let T = rows_in_lem at.t in
    let size = lent_same at.a s.a.now at.auto.a in
    let pairs = zip_length R T (size ∙ c.requires.0 ∙ sym (lent_same at.t s.t.now at.auto.t)) in
    let none = drop_of_length-le (zip R T) {i = at.p} (omega (arith, pairs, size, c.rows_in-k.ensures, c.if-p-k.true)) in
    (at.invariant.0, at.invariant.1, sym (columns_full (0, 0) add_both (λ i a. bit i a.0) (s.m - at.c) at.c (halves at.p (take at.p at.pivots) (zip R T)) none) ∙ at.invariant.2)

pub by_column-p-requires : goal.by_column-p-requires
by_column-p-requires c =
    let at = c.loop-c in
    let s = c.args in
    let size = lent_same at.a s.a.now at.auto.a in
    (size ∙ c.requires.0 ∙ sym (lent_same at.t s.t.now at.auto.t), omega (arith, size, at.invariant.0), omega (arith, size, at.auto.pivots, c.requires.1))

pub loop-c-preserved : goal.loop-c-preserved
loop-c-preserved c =
    let at = c.loop-c in
    let s = c.args in
    let o = c.by_column-p in
    let done = o.ensures in (
      omega (arith, done.1, lent_same at.a s.a.now at.auto.a),
      behind_kept at.p o.result s.pivots.now at.pivots o.new.pivots done.0 at.invariant.1 done.2,
      columns_step (0, 0) add_both (λ i a. bit i a.0) s.m at.c (halves at.p (take at.p at.pivots) (zip (rows_in_lem at.a) (rows_in_lem at.t))) _ _ (omega arith)
          at.invariant.2 done.3,
    )

pub returns : goal.returns
returns c =
    let at = c.loop-c in
    let h = halves at.p (take at.p at.pivots) (zip (rows_in_lem at.a) (rows_in_lem at.t)) in
    (at.invariant.0, at.invariant.1, sym (columns_done (0, 0) add_both (λ i a. bit i a.0) c.args.m at.c h (omega arith)) ∙ at.invariant.2)
