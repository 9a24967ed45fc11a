-- `nonzero_row` finds the first row that is not zero, by `found`.
use borrow.Author.Rules.{rules}
use Rattle.blocks.specs.Words.{rows_in_lem}
use Rattle.transvection.proofs.Finds.{found}
use Rattle.transvection.proofs.Searches.{nonzero}
use Rattle.transvection.proofs.Standing.nonzero_row.Goals as goal

pub returns : goal.returns
returns c =
    let s = c.args.self.now in
    found _ _ (nonzero s.n (rows_in_lem s.words.now) s.all) (λ x o q k. search rules) (λ x o l k. search rules) c.find_map.result c.find_map.ensures.runs
