-- `begins` compares the rows one by one, by `matched`; fewer rows differ by `rows_differ`.
use mathlib.Core.Path.{◌≡◌, refl, ap, ap₂, ◌∙◌}
use mathlib.Core.Bool.{Bool, ◌&&◌}
use mathlib.Core.List.{List, [], ◌∷◌}
use Prim.Native.Nat.{ℕ, suc, ◌+◌, ◌≤◌}
use lib.Dec.{eqb}
use lib.ListN.{length, get_or, take, length-take}
use Rattle.std.specs.List.{list_all, range_with_len}
use Rattle.std.proofs.lemmas.Iterator.{YieldsList-from_range}
use Rattle.std.proofs.lemmas.Iterator.Search.{all_from_yields_List}
use Rattle.binar.proofs.Orders.{rows_eq}
use Rattle.blocks.specs.Words.{rows_in_lem}
use Rattle.symplectic.specs.Matches.{same_rows}
use Rattle.symplectic.proofs.Matches.{rows_differ}
use native.Mathlib.Omega.{arith}
use borrow.Author.Tests.{tests, lt-leb}
use borrow.Author.Rules.{rules}
use Rattle.memory.proofs.begins.Goals as goal

-- the rows of B compared, by their numbers from a on, with the first of A
matched : (A B : List ℕ) (f : ℕ → Bool) (a : ℕ) → length B ≤ length A → ((i : ℕ) → f (a + i) ≡ eqb (get_or A i 0) (get_or B i 0))
    → list_all f (range_with_len a (length B)) ≡ same_rows (take (length B) A) B
matched A [] f a h is = refl
matched [] (y ∷ B) f a h is = absurd (omega arith)
matched (x ∷ A) (y ∷ B) f a h is =
    let first : a ≡ a + 0 = omega arith in
    ap₂ ◌&&◌ (ap f first ∙ is 0) (matched A B f (a + 1) (omega arith) (λ i. let next : a + 1 + i ≡ a + suc i = omega arith in ap f next ∙ is (suc i)))

pub returns-then-d-rows_in : goal.returns-then-d-rows_in
returns-then-d-rows_in c =
    let A = rows_in_lem c.args.w.now in
    let B = rows_in_lem c.args.basis.now in
    let test = λ (i : ℕ). eqb (get_or A i 0) (get_or B i 0) in
    let by_number = all_from_yields_List test _ _ c.all.result c.all.ensures.ran (YieldsList-from_range 0 (length B) (length B) (ap (λ (e : ℕ). record { start = 0; end = e }) c.rows_in-d.ensures) (omega arith)) (λ x b q k. search (rules, tests, rows_eq)) in
    by_number ∙ matched A B test 0 (omega (arith, c.rows_in.ensures, c.rows_in-d.ensures, c.if-d-rows_in.true)) (λ i. ap test (omega arith))

pub returns-else-d-rows_in : goal.returns-else-d-rows_in
returns-else-d-rows_in c =
    let A = rows_in_lem c.args.w.now in
    let B = rows_in_lem c.args.basis.now in
    lt-leb c.rows_in-d.result c.rows_in.result c.if-d-rows_in.false
    ∙ rows_differ (take (length B) A) B (λ e. omega (arith, e, c.if-d-rows_in.false, c.rows_in.ensures, c.rows_in-d.ensures, length-take (length B) A))
