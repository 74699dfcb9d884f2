use mathlib.Core.Path.{sym}
use Rattle.integers.proofs.Machine.{clean, lt_yes, lt_no}
use Rattle.tables.proofs.Checks.{fits_negated, within-no, within_is}
use Rattle.tables.proofs.within.Goals as goal

pub overflow_sub-bound : goal.overflow_sub-bound
overflow_sub-bound c = rw (clean c.ranges.bound) (fits_negated c.requires c.ranges.bound)

pub returns-then-x-bound : goal.returns-then-x-bound
returns-then-x-bound c =
    sym (within-no c.requires (rw (clean c.ranges.bound) at (lt_yes c.ranges.x (overflow_sub-bound c.before) c.if-x-bound.true)))

pub returns : goal.returns
returns c =
    rw (clean c.ranges.x, clean c.ranges.bound)
    (sym (within_is c.requires (rw (clean c.ranges.bound) at (lt_no c.ranges.x (overflow_sub-bound c.before) c.if-x-bound.false))))
