-- `words_fit` tests the rows by their words, one each.
use mathlib.Core.Path.{sym, ap, ◌∙◌}
use Prim.Native.Nat.{◌+◌, ◌^◌}
use native.Mathlib.Omega.{arith}
use Rattle.std.specs.Prelude.{nat_lt}
use Rattle.std.specs.List.{list_all}
use Rattle.blocks.proofs.Values.{rows_are}
use Rattle.symplectic.proofs.Sizes.{capped_le}
use Rattle.symplectic.specs.Sizes.{capped}
use Rattle.symplectic.proofs.Matches.{fit_all_is}
use Rattle.symplectic.specs.Matches.{fit_all}
use Rattle.questions.proofs.words_fit.Goals as goal

pub overflow_add-m : goal.overflow_add-m
overflow_add-m c = omega (arith, capped_le c.args.n, c.capped-k.ensures)

pub returns : goal.returns
returns c =
    let s = c.args in
    let m = capped s.n + capped s.n in
    c.all_fit.ensures ∙ ap (λ k. list_all (λ w. nat_lt w (2 ^ (k + k))) s.words.now) c.capped-k.ensures ∙ sym (fit_all_is m s.words.now)
    ∙ ap (fit_all m) (sym (rows_are s.n s.words.now))
