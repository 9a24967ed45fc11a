-- `search_core` answers the looks of the search, by `seen_looks`, and leaves the memory as the search does.
use Rattle.bench_search.proofs.Seen.{seen_looks}
use Rattle.bench_search.proofs.search_core.Goals as goal

pub returns : goal.returns
returns c =
    let o = c.congruence_triangularize-r in record {
      answered = seen_looks o.result.ending o.result.looks _ _ o.ensures.answered;
      remembered = o.ensures.remembered;
    }
