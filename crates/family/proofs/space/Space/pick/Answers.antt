-- `pick` takes the first of the two choices that is made, by `either_picked`.
use lib.ListN.{take}
use Rattle.blocks.specs.Words.{rows_in_lem}
use Rattle.family.proofs.Members.{either_picked}
use borrow.Author.Rules.{rules}
use Rattle.family.proofs.space.Space.pick.Goals as goal

pub returns : goal.returns
returns c =
    let B = take c.args.self.now.d (rows_in_lem c.args.self.now.basis) in
    λ E fit. either_picked E B c.first_one.result c.or_else.result (c.first_one.ensures E fit) c.or_else.ensures (λ n. search rules)
