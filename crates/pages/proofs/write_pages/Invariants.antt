-- `write_pages` ends: what is left of the most lines falls with each page that is written.
use Rattle.std.proofs.Common.{◌-◌}
use Rattle.job.specs.Files.{longest_file}
use Rattle.pages.proofs.write_pages.Given as goal

abbrev pub decreases-loop-from : goal.decreases-loop-from
decreases-loop-from g l = longest_file - l.from
