-- Words of a function's own, lent for work: how many rows there are in zeros and in a part of words, and the identity put over as many rows as it has.
-- Assumes nothing.
use mathlib.Core.Path.{◌≡◌, sym, ap, ◌∙◌}
use mathlib.Core.List.{List}
use Prim.Native.Nat.{ℕ, ◌+◌, ◌/◌, ◌≤◌, min}
use native.Mathlib.Omega.{arith}
use lib.ListN.{length, take, replicate, length-replicate}
use lib.Seq.{length-take-le}
use Rattle.binar.specs.Rows.{width}
use Rattle.blocks.specs.Matrices.{units}
use Rattle.blocks.specs.Words.{rows_in_lem, words_for, over}
use Rattle.blocks.proofs.Units.{units_length}
use Rattle.blocks.proofs.Values.{rows_count}
use Rattle.blocks.proofs.Lent.{lent_within, lent_front}
use Rattle.blocks.proofs.Overs.{over_same}

-- as many rows as there is room for
pub room_in_lem : (m k : ℕ) → k ≤ m → k ≤ length (rows_in_lem (replicate m 0))
room_in_lem m k h = omega (arith, rows_count (width / 2) (replicate m 0), length-replicate {A = ℕ} m 0)

-- the first k rows, which end where row k begins
module _ (k to : ℕ) (ws : List ℕ) (at : to ≡ min (words_for k) (length ws)) where
  pub part_words : to ≡ length (take to ws)
  part_words = sym (length-take-le to ws (lent_within k to ws at))

  pub part_rows : k ≤ length (rows_in_lem ws) → length (rows_in_lem (take to ws)) ≡ k
  part_rows h = ap length (lent_front k to ws at) ∙ length-take-le k (rows_in_lem ws) h

pub identity_whole : (q : ℕ) (l : List ℕ) → length l ≡ q + q → over (units (q + q)) l ≡ units (q + q)
identity_whole q l e = over_same (units (q + q)) l (units_length (q + q) ∙ sym e)
