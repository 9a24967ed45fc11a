-- `by_column` leaves all as it is where no row has the column, by `both_none`; else it exchanges, sweeps and writes the pivot, by `column_next`.
use mathlib.Core.Path.{refl, sym, ap₂, ◌∙◌}
use mathlib.Core.List.{zip}
use Prim.Native.Nat.{◌+◌}
use lib.ListN.{take}
use lib.Seq.{drop-set-lt}
use Rattle.binar.specs.Bits.{bit}
use Rattle.blocks.specs.Words.{rows_in_lem}
use Rattle.blocks.proofs.Firsts.{First}
use Rattle.blocks.proofs.Values.{set_next}
use Rattle.reduction.specs.inner.Sweeps.{swept}
use Rattle.reduction.proofs.TwoLists.{both_none, column_next}
use native.Mathlib.Omega.{arith}
use borrow.Author.Rules.{rules}
use Rattle.reduction.proofs.by_column.Goals as goal

pub returns-in_default : goal.returns-in_default
returns-in_default c =
    let s = c.args in
    (search rules, search rules, refl, sym (both_none s.c s.p (take s.p s.pivots.now) (rows_in_lem s.a.now) (rows_in_lem s.t.now) c.requires.0 c.in_default.ensures))

pub returns : goal.returns
returns c =
    let s = c.args in
    let f = c.in-Some.ensures in
    let R = rows_in_lem s.a.now in
    let T = rows_in_lem s.t.now in
    let first : First (bit s.c) 0 R s.p c.in-Some.j = record { from = f.0; inside = f.1; before = f.3; at = f.2 } in
    let pivots = set_next s.pivots.now s.p s.c (omega (arith, c.requires.2, f.0, f.1)) in
    let x = c.exchange.ensures in
    let y = c.exchange-2.ensures in (
      search rules,
      omega (arith, f.0, f.1),
      drop-set-lt (s.p + 1) s.pivots.now s.p _ (omega arith),
      column_next s.c s.p c.in-Some.j (take s.p s.pivots.now) _ R T _ _ c.requires.0 first pivots
          (c.sweep.ensures ∙ ap₂ (λ l m. swept s.c s.p (zip l m)) x y),
    )
