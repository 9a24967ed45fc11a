-- `matches` fails where a vector is too wide; else it is whether the product is the action, by `matches_is`.
use mathlib.Core.Path.{sym, ap, ◌∙◌}
use mathlib.Core.List.{List}
use Prim.Native.Nat.{ℕ, ◌+◌}
use Rattle.blocks.specs.Words.{rows_of_words}
use Rattle.symplectic.specs.Sizes.{capped}
use Rattle.actions.specs.Actions.{matrix}
use Rattle.symplectic.specs.Turns.{product}
use Rattle.symplectic.specs.Matches.{fit_all, same_rows}
use Rattle.symplectic.proofs.Tests.{and_no, and_yes}
use Rattle.symplectic.proofs.Matches.{matches_is}
use Rattle.shorter.proofs.matches.Goals as goal

pub returns-else-words_fit : goal.returns-else-words_fit
returns-else-words_fit c =
    let s = c.args in
    let vs = rows_of_words s.n s.list.now in
    let q = capped s.n in
    c.if-words_fit.false ∙ and_no (fit_all (q + q) vs) (same_rows (product q vs) (matrix s.a)) (sym c.words_fit.ensures ∙ c.if-words_fit.false)
    ∙ sym (matches_is q (matrix s.a) vs)

pub returns-then-words_fit : goal.returns-then-words_fit
returns-then-words_fit c =
    let s = c.args in
    let vs = rows_of_words s.n s.list.now in
    let q = capped s.n in
    let fit = c.words_fit in
    and_yes (fit_all (q + q) vs) (same_rows (product q vs) (matrix s.a)) c.same_rows.result (sym fit.ensures ∙ c.if-words_fit.true)
    (c.same_rows.ensures ∙ ap (λ (P : List ℕ). same_rows P (matrix s.a)) c.product_of.ensures.1)
    ∙ sym (matches_is q (matrix s.a) vs)
