-- `pairs_as_basis` tests the rows before row i, by `basis_by_rows`: the code's two tests are the pairings of the rows and of their basis vectors.
use mathlib.Core.Path.{◌≡◌, refl, sym, ap, ap₂, ◌∙◌}
use mathlib.Core.Bool.{beq}
use Prim.Native.Nat.{ℕ, ◌+◌, min}
use native.Mathlib.Omega.{arith}
use lib.ListN.{length, get_or}
use Rattle.binar.specs.Bits.{bit, dot}
use Rattle.binar.specs.Rows.{val}
use Rattle.binar.proofs.Ones.{unit_is}
use Rattle.blocks.specs.Words.{rows_of_words}
use Rattle.blocks.proofs.Values.{rows_count, rows_word}
use Rattle.symplectic.specs.Sizes.{capped}
use Rattle.symplectic.specs.inner.Vectors.{swap_halves_lem}
use Rattle.symplectic.proofs.Sizes.{capped_le}
use Rattle.symplectic.proofs.Pairings.{swap_pairing, swap_basis}
use Rattle.symplectic.proofs.Tests.{alike, basis_by_rows}
use Rattle.symplectic.proofs.pairs_as_basis.Goals as goal
use Rattle.symplectic.proofs.pairs_as_basis.Goals.{After-swap_halves-e}

tested : (c : After-swap_halves-e)
    → let s = c.args in
    let F = rows_of_words s.n s.words.now in
    (j : ℕ) → beq (dot (get_or s.words.now j 0) (val c.swap_halves-s.result)) (bit j (val c.swap_halves-e.result)) ≡ alike (capped s.n) F s.i j
tested c j =
    let s = c.args in
    let q = capped s.n in
    let k = c.capped-k.ensures in
    let F = rows_of_words s.n s.words.now in
    let first = ap₂ dot (sym (rows_word s.n s.words.now j)) (c.swap_halves-s.ensures ∙ ap₂ swap_halves_lem k (c.from.ensures ∙ sym (rows_word s.n s.words.now s.i)))
    ∙ swap_pairing q (get_or F s.i 0) (get_or F j 0) in
    let second = ap (bit j) (c.swap_halves-e.ensures ∙ ap₂ swap_halves_lem k (c.unit.ensures ∙ unit_is s.i (omega (arith, capped_le s.n, c.requires))))
    ∙ swap_basis q s.i j in
    ap₂ beq first second

pub swap_halves-s-requires : goal.swap_halves-s-requires
swap_halves-s-requires c = omega (arith, capped_le c.args.n, c.capped-k.ensures)

pub swap_halves-e-requires : goal.swap_halves-e-requires
swap_halves-e-requires c = omega (arith, capped_le c.args.n, c.capped-k.ensures)

pub returns : goal.returns
returns c =
    let s = c.args in
    let q = capped s.n in
    let F = rows_of_words s.n s.words.now in
    c.dots_as.ensures
    ∙ basis_by_rows q F (min (length F) (q + q)) refl _ s.i (omega (arith, c.requires, rows_count s.n s.words.now)) (λ j _. tested (goal.at.returns c).After-swap_halves-e j)
