use native.Mathlib.Omega.{arith}
use lib.ListN.{length-take}
use Rattle.report.proofs.report.report_read.Goals as goal

pub slice_bounds-report-end : goal.slice_bounds-report-end
slice_bounds-report-end c = omega (arith, c.requires.1, length-take c.args.size c.args.buffer.now)
