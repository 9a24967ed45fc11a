-- `product_of` lends as many rows as the product has, by `part_rows`.
use Prim.Native.Nat.{◌+◌, ◌≤◌}
use mathlib.Core.Path.{◌∙◌}
use native.Mathlib.Omega.{arith}
use lib.ListN.{replicate}
use Rattle.symplectic.specs.Sizes.{most_rows}
use Rattle.symplectic.proofs.Sizes.{capped_le}
use Rattle.symplectic.proofs.Work.{room_in_lem, part_words, part_rows}
use Rattle.rebuild.proofs.product_of.Goals as goal
use Rattle.rebuild.proofs.product_of.Goals.{After-capped-k}

-- there is room for the rows
few : (c : goal.After-capped-k) → c.capped-k.result + c.capped-k.result ≤ most_rows
few c = omega (arith, capped_le c.args.n, c.capped-k.ensures)

pub overflow_add-k : goal.overflow_add-k
overflow_add-k c = omega (arith, few (goal.at.overflow_add-k c).After-capped-k)

pub slice_bounds-product_in-end : goal.slice_bounds-product_in-end
slice_bounds-product_in-end c = let k = c.capped-k.result in part_words (k + k) c.start-to.result (replicate most_rows 0) c.start-to.ensures

pub product_in-requires : goal.product_in-requires
product_in-requires c =
    let k = c.capped-k.result in
    let e = c.capped-k.ensures in
    part_rows (k + k) c.start-to.result (replicate most_rows 0) c.start-to.ensures (room_in_lem most_rows (k + k) (few (goal.at.product_in-requires c).After-capped-k)) ∙ omega (arith, e)
