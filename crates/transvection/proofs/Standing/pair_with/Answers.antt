-- `pair_with` finds the first row that makes a pair with row i, by `found`.
use borrow.Author.Rules.{rules}
use Rattle.blocks.specs.Words.{rows_in_lem}
use Rattle.transvection.proofs.Finds.{found}
use Rattle.transvection.proofs.Searches.{with_row}
use Rattle.transvection.proofs.Standing.pair_with.Goals as goal

pub returns : goal.returns
returns c =
    let s = c.args.self.now in
    found _ _ (with_row s.n (rows_in_lem s.words.now) s.all c.args.i c.requires) (λ x o q k. search rules) (λ x o l k. search rules) c.find_map.result c.find_map.ensures.runs
