-- `sweep` clears every row and puts row p back, by `swept_is`.
use mathlib.Core.Path.{ap₂, ◌∙◌}
use mathlib.Core.List.{zip}
use Rattle.blocks.specs.Words.{rows_in_lem}
use Rattle.reduction.proofs.Swept.{swept_is}
use Rattle.reduction.proofs.sweep.Goals as goal

pub returns : goal.returns
returns c =
    let s = c.args in
    let v = c.row-v.ensures in
    let w = c.row-w.ensures in
    let done = c.clear.ensures in
    ap₂ zip c.put.ensures c.put-2.ensures ∙ swept_is s.c s.p _ _ (rows_in_lem s.a.now) (rows_in_lem s.t.now) _ _ c.requires v w done
