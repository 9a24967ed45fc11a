-- `one_row` finds the first row that pairs to 1 with its own basis vector, by `found`.
use borrow.Author.Rules.{rules}
use Rattle.blocks.specs.Words.{rows_in_lem}
use Rattle.transvection.proofs.Finds.{found}
use Rattle.transvection.proofs.Searches.{one}
use Rattle.transvection.proofs.Standing.one_row.Goals as goal

pub returns : goal.returns
returns c =
    let s = c.args.self.now in
    found _ _ (one s.n (rows_in_lem s.words.now) s.all) (λ x o q k. search rules) (λ x o l k. search rules) c.find_map.result c.find_map.ensures.runs
