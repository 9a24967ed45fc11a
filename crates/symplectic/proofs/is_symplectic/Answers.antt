-- `is_symplectic` tests each row with those before it, by `symplectic_by_rows`.
use mathlib.Core.Path.{◌∙◌}
use native.Mathlib.Omega.{arith}
use Rattle.blocks.specs.Words.{rows_of_words}
use Rattle.blocks.proofs.Values.{rows_count}
use Rattle.symplectic.specs.Sizes.{capped}
use Rattle.symplectic.proofs.Sizes.{capped_le}
use Rattle.symplectic.proofs.Tests.{symplectic_by_rows}
use Rattle.symplectic.proofs.is_symplectic.Goals as goal

pub overflow_add-k : goal.overflow_add-k
overflow_add-k c = omega (arith, capped_le c.args.n, c.capped-k.ensures)

pub rows_pair-requires : goal.rows_pair-requires
rows_pair-requires c = (omega (arith, c.min-count.ensures, c.capped-k.ensures), omega (arith, c.min-count.ensures))

pub returns : goal.returns
returns c =
    let s = c.args in
    let F = rows_of_words s.n s.words.now in
    c.rows_pair.ensures ∙ symplectic_by_rows (capped s.n) F c.min-count.result (omega (arith, c.min-count.ensures, rows_count s.n s.words.now, c.capped-k.ensures))
