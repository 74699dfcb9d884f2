use mathlib.Core.Path.{refl, sym, ◌∙◌}
use Rattle.integers.proofs.Machine.{clean}
use Rattle.tables.proofs.Checks.{and_of, and_first_false}
use Rattle.tables.proofs.Admission.{order_small}
use Rattle.pool.proofs.Counting.{entry-order, entry_length, entry-passed}
use Rattle.pool.proofs.entering.check_entry.Goals as goal

pub returns-then-not-orders_ok : goal.returns-then-not-orders_ok
returns-then-not-orders_ok c =
    let ok = rw (clean c.ranges.n) at c.orders_ok.ensures in
    entry-order _ _ _ _ (sym ok ∙ c.if-not-orders_ok.true)

pub returns-then-not-orders_same : goal.returns-then-not-orders_same
returns-then-not-orders_same c =
    let ok = rw (clean c.ranges.n) at c.orders_ok.ensures in
    let same = rw (clean c.ranges.n) at c.orders_same.ensures in
    entry_length _ _ _ _ (sym ok ∙ c.if-not-orders_ok.false) (and_first_false _ (sym same ∙ c.if-not-orders_same.true))

pub pool_sized-requires : goal.pool_sized-requires
pool_sized-requires c = let p = c.requires in (p.0, rw c.order_of.ensures (order_small _), p.1)

pub returns-then-not-pool_sized : goal.returns-then-not-pool_sized
returns-then-not-pool_sized c =
    let ok = rw (clean c.ranges.n) at c.orders_ok.ensures in
    let same = rw (clean c.ranges.n) at c.orders_same.ensures in
    let sized = rw (c.order_of.ensures, clean c.ranges.n) at c.pool_sized.ensures in
    entry_length _ _ _ _ (sym ok ∙ c.if-not-orders_ok.false)
    (rw (sym same ∙ c.if-not-orders_same.false, sym sized ∙ c.if-not-pool_sized.true) refl)

pub returns : goal.returns
returns c =
    let ok = rw (clean c.ranges.n) at c.orders_ok.ensures in
    let same = rw (clean c.ranges.n) at c.orders_same.ensures in
    let sized = rw (c.order_of.ensures, clean c.ranges.n) at c.pool_sized.ensures in
    entry-passed _ _ _ _ (sym ok ∙ c.if-not-orders_ok.false)
    (and_of (sym same ∙ c.if-not-orders_same.false) (sym sized ∙ c.if-not-pool_sized.false))
