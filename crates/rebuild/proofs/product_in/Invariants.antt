-- `product_in` makes the turns of the vectors in order, by `product_more`, from the identity.
use mathlib.Core.Path.{◌≡◌}
use lib.ListN.{length, take}
use Rattle.blocks.specs.Words.{rows_of_words, rows_in_lem}
use Rattle.symplectic.specs.Sizes.{capped}
use Rattle.symplectic.specs.Turns.{product}
use Rattle.rebuild.proofs.product_in.Given as goal

abbrev pub invariant-loop-v : goal.invariant-loop-v
invariant-loop-v l = (length l.w ≡ length l.initial.w) × (rows_in_lem l.w ≡ product (capped l.n) (take l.v-index (rows_of_words l.n l.list)))
