-- `fill_page` lays line k behind those that stand, by `filled_laid`.
use native.Mathlib.Omega.{arith}
use Rattle.lines.specs.Bytes.{bytes_of}
use Rattle.printout.specs.Printout.{file_lines}
use Rattle.printout.proofs.Numbered.{file_lines_lem}
use Rattle.printout.proofs.Filling.{filled_laid}
use Rattle.printout.proofs.Job.fill_page.Goals as goal

pub loop-k-preserved : goal.loop-k-preserved
loop-k-preserved c =
    let s = c.args in
    let file = s.self.now.file.now in
    let at = c.loop-k in
    let l = c.line_at-l in
    let size = c.len-size in
    let laid = filled_laid (file_lines file) s.from s.out.now at.k at.used at.out at.invariant.0 (omega (arith, s.self.now.counted, file_lines_lem file)) (bytes_of l.result) c.lay.new.out size.result
    l.ensures size.ensures.counted c.if-out-used.false c.lay.ensures in (
      laid,
      omega (arith, laid.within, laid.long),
      omega (arith, at.invariant.0.begun, at.invariant.2, size.ensures.counted, size.ensures.within),
    )
