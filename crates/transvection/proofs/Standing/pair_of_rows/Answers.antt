-- `pair_of_rows` finds the first pair that there is, by `found`.
use borrow.Author.Rules.{rules}
use Rattle.blocks.specs.Words.{rows_in_lem}
use Rattle.transvection.proofs.Finds.{found}
use Rattle.transvection.proofs.Searches.{pair}
use Rattle.transvection.proofs.Standing.pair_of_rows.Goals as goal

pub returns : goal.returns
returns c =
    let s = c.args.self.now in
    found _ _ (pair s.n (rows_in_lem s.words.now) s.all) (λ x o q k. search rules) (λ x o l k. search rules) c.find_map.result c.find_map.ensures.runs
