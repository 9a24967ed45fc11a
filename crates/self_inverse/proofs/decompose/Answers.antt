-- `decompose` peels single rows, then pairs: what both have listed is all, by `decomposed`.
use mathlib.Core.Path.{ap}
use Prim.Native.Nat.{ℕ, ◌+◌, ◌≤◌}
use native.Mathlib.Omega.{arith}
use lib.ListN.{length}
use Rattle.blocks.specs.Words.{rows_in_lem}
use Rattle.reduction.specs.Columns.{rank}
use Rattle.reduction.proofs.Transform.{rank_length}
use Rattle.self_inverse.proofs.Turns.{decomposed}
use Rattle.self_inverse.proofs.decompose.Goals as goal

pub pair_off-requires : goal.pair_off-requires
pair_off-requires c =
    let p = c.peel.ensures in
    let M = rows_in_lem c.args.rows.now in
    let R = rows_in_lem c.peel.new.rows in
    let short : length c.peel.new.list + rank (length R) R ≤ length R = omega (arith, ap (λ (m : ℕ). rank m R) p.square, p.square, p.short, rank_length (length M) M) in (
      record { square = p.left.0; narrow = omega (arith, p.square, c.requires.0.narrow) },
      p.left.1,
      short,
    )

pub returns : goal.returns
returns c =
    let p = c.peel.ensures in
    let o = c.pair_off in
    decomposed (rows_in_lem c.args.rows.now) (rows_in_lem c.peel.new.rows) c.peel.new.list o.new.list p.split p.left.1 p.square p.short
    (o.ensures.sums (rows_in_lem c.args.rows.now) p.split) o.ensures.short
