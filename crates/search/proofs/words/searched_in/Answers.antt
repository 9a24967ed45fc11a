-- `searched_in` lends words with room for the levels of the core's dimension.
use Prim.Native.Nat.{ℕ, ◌/◌, ◌≤◌}
use native.Mathlib.Omega.{arith}
use lib.ListN.{length, replicate, length-replicate}
use Rattle.binar.specs.Rows.{width}
use Rattle.blocks.specs.Words.{rows_in_lem}
use Rattle.blocks.proofs.Values.{rows_count}
use Rattle.search.specs.inner.Levels.{levels}
use Rattle.search.proofs.LentLevels.{levels_64}
use Rattle.search.proofs.words.searched_in.Goals as goal

room : (k n : ℕ) → levels k ≤ n → levels k ≤ length (rows_in_lem (replicate n 0))
room k n h = omega (arith, h, rows_count (width / 2) (replicate n 0), length-replicate {A = ℕ} n 0)

pub whole_as_slice-searched : goal.whole_as_slice-searched
whole_as_slice-searched g c = omega (arith, c.requires, levels_64)

pub whole_as_slice-searched-2 : goal.whole_as_slice-searched-2
whole_as_slice-searched-2 g c = omega (arith, c.requires, levels_64)

pub searched-requires : goal.searched-requires
searched-requires g c = let fits = room c.args.k g.row.N c.requires.2 in (c.requires.0, c.requires.1, fits, fits)
