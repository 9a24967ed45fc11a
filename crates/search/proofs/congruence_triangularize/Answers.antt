-- `congruence_triangularize` searches the first rows of the core, as many as a row has columns, in words for the levels of their dimension:
-- 72 for 8, 272 for 16, 1,056 for 32, 4,160 for 64.
use mathlib.Core.Path.{◌≡◌, sym, ap, ◌∙◌}
use Prim.Native.Nat.{ℕ, ◌≤◌, min}
use native.Mathlib.Omega.{arith}
use lib.ListN.{length, length-take}
use Rattle.binar.specs.Rows.{width}
use Rattle.blocks.specs.Words.{rows_in_lem}
use Rattle.triangular.specs.Readings.{core_in}
use Rattle.triangular.proofs.Cores.{core_in_lem}
use Rattle.search.specs.inner.Levels.{levels}
use Rattle.search.proofs.LentLevels.{levels_mono, levels_8, levels_16, levels_32, levels_64}
use Rattle.search.proofs.congruence_triangularize.Goals as goal
use Rattle.search.proofs.congruence_triangularize.Goals.{After-min-k}

-- words with room for the levels of dimension `most`
lends : (c : goal.After-min-k) (most n : ℕ) → c.min-k.result ≤ most → levels most ≡ n → n ≤ 4160
    → (c.min-k.result ≤ width) × (c.min-k.result ≡ length (core_in c.args.core.now)) × (levels c.min-k.result ≤ n) × (n ≤ levels width)
lends c most n h e few =
    let ws = c.args.core.now in (
      omega (arith, c.min-k.ensures),
      c.min-k.ensures ∙ ap (min width) c.rows_in.ensures ∙ sym (length-take width (rows_in_lem ws)) ∙ ap length (sym (core_in_lem ws)),
      omega (arith, levels_mono c.min-k.result most h, e),
      omega (arith, few, levels_64),
    )

pub searched_in-requires : goal.searched_in-requires
searched_in-requires c = lends (goal.at.searched_in-requires c).After-min-k 8 72 (omega (arith, c.if-k-le8.true)) levels_8 (omega arith)

pub searched_in-requires-then-k-le16 : goal.searched_in-requires-then-k-le16
searched_in-requires-then-k-le16 c = lends (goal.at.searched_in-requires-then-k-le16 c).After-min-k 16 272 (omega (arith, c.if-k-le16.true)) levels_16 (omega arith)

pub searched_in-requires-then-k-le32 : goal.searched_in-requires-then-k-le32
searched_in-requires-then-k-le32 c = lends (goal.at.searched_in-requires-then-k-le32 c).After-min-k 32 1056 (omega (arith, c.if-k-le32.true)) levels_32 (omega arith)

pub searched_in-requires-2 : goal.searched_in-requires-2
searched_in-requires-2 c = lends (goal.at.searched_in-requires-2 c).After-min-k 64 4160 (omega (arith, c.min-k.ensures)) levels_64 (omega arith)
