-- By the sign of the entry.
use Rattle.integers.proofs.Machine.{clean}
use Rattle.tried.proofs.Shares.{chosen-one, chosen-minus-one}
use Rattle.tried.proofs.choose.Goals as goal

pub returns-then-entry-gt0 : goal.returns-then-entry-gt0
returns-then-entry-gt0 c =
    let p = c.requires in
    chosen-one p.0 p.1 (rw (clean c.ranges.entry) at c.if-entry-gt0.true) c.add_row.ensures c.add_row-then-entry-gt0.ensures

pub returns : goal.returns
returns c =
    let p = c.requires in
    chosen-minus-one p.0 p.1 (rw (clean c.ranges.entry) at c.if-entry-gt0.false) p.2 c.add_row-2.ensures c.add_row-3.ensures
