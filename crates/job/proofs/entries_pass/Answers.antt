-- `entries_pass` asks each entry in turn, by `entries_range`.
use mathlib.Core.Path.{refl, ◌∙◌}
use Rattle.std.proofs.Common.{rules, tests, arith}
use Rattle.std.proofs.lemmas.Iterator.{YieldsList-from_range}
use Rattle.std.proofs.lemmas.Iterator.Search.{all_from_yields_List}
use Rattle.job.specs.Files.{entry, entry_passes_lem}
use Rattle.job.proofs.Checks.{entries_range}
use Rattle.job.proofs.entries_pass.Goals as goal

pub returns : goal.returns
returns c =
    let file = c.args.file.now in
    all_from_yields_List (λ i. entry_passes_lem file (entry file i)) _ _ _ c.all.ensures.ran (YieldsList-from_range 0 c.args.k c.args.k refl (omega arith)) (λ x b q k. search (rules, tests))
    ∙ entries_range file c.args.k
