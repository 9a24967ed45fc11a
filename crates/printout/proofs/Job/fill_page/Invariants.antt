-- `fill_page` lays the lines one by one: the page is filled up to line k, by `filled_laid`, and is whole where no line more fits.
use Prim.Native.Nat.{◌-◌, ◌*◌, ◌≤◌}
use lib.ListN.{length}
use Rattle.lines.specs.Bytes.{line_room}
use Rattle.printout.specs.Printout.{file_lines}
use Rattle.printout.proofs.Filling.{Filled}
use Rattle.printout.proofs.Job.fill_page.Given as goal

abbrev pub invariant-loop-k : goal.invariant-loop-k
invariant-loop-k l = Filled (file_lines l.self.file.now) l.from l.initial.out l.k l.used l.out × (l.used ≤ length l.out) × (l.used ≤ (l.k - l.from) * line_room)
