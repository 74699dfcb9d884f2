use mathlib.Core.Path.{sym}
use Rattle.integers.proofs.Machine.{clean, lt_yes, lt_no, fits_literal}
use Rattle.tables.proofs.Checks.{order-no, order_is}
use Rattle.tables.proofs.order_ok.Goals as goal

pub returns-then-n-lt1 : goal.returns-then-n-lt1
returns-then-n-lt1 c = sym (order-no (lt_yes c.ranges.n (fits_literal tt) c.if-n-lt1.true))

pub returns : goal.returns
returns c =
    rw (clean c.ranges.n) (sym (order_is (lt_no c.ranges.n (fits_literal tt) c.if-n-lt1.false)))
