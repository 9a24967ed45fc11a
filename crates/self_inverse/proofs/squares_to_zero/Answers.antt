-- `squares_to_zero` tests the rows by their numbers.
use mathlib.Core.Path.{refl, sym, ap, ◌∙◌}
use Prim.Native.Nat.{ℕ}
use lib.Dec.{eqb}
use lib.ListN.{length, get_or}
use Rattle.std.specs.List.{list_all, range_with_len}
use Rattle.std.proofs.lemmas.Iterator.{YieldsList-from_range}
use Rattle.std.proofs.lemmas.Iterator.Search.{all_from_yields_List}
use Rattle.std.proofs.lemmas.List.Folds.{list_all-map}
use Rattle.std.proofs.lemmas.List.FromFn.{fill_by_all}
use Rattle.blocks.specs.Matrices.{times}
use Rattle.blocks.specs.Words.{rows_in_lem}
use native.Mathlib.Omega.{arith}
use borrow.Author.Tests.{tests}
use borrow.Author.Rules.{rules}
use Rattle.self_inverse.proofs.squares_to_zero.Goals as goal

pub returns : goal.returns
returns c =
    let M = rows_in_lem c.args.rows.now in
    let test = λ (v : ℕ). eqb (times v M) 0 in
    let at = λ (i : ℕ). get_or M i 0 in
    let by_number = all_from_yields_List (λ (i : ℕ). test (at i)) _ _ c.all.result c.all.ensures.ran (YieldsList-from_range 0 (length M) (length M) (ap (λ (e : ℕ). record { start = 0; end = e }) c.rows_in.ensures) (omega arith)) (λ x b q k. search (rules, tests)) in
    by_number ∙ sym (list_all-map test at (range_with_len 0 (length M))) ∙ ap (list_all test) (sym (fill_by_all at M (length M) 0 refl (λ k h. refl)))
