use mathlib.Core.Path.{sym, ◌∙◌}
use lib.ListN.{take}
use Rattle.std.proofs.Common.{rules, tests}
use Rattle.std.proofs.lemmas.Iterator.{YieldsList-from_slice}
use Rattle.std.proofs.lemmas.Iterator.Search.{all_from_yields_List}
use Rattle.integers.proofs.Machine.{clean}
use Rattle.tables.specs.Checks.{order_ok}
use Rattle.tables.proofs.Checks.{and_first_false}
use Rattle.pool.specs.Pool.{orders_ok}
use Rattle.pool.proofs.Fronts.{list_all-front}
use Rattle.pool.proofs.entering.orders_ok.Goals as goal

pub returns-then-not-order_ok : goal.returns-then-not-order_ok
unfolding orders_ok
returns-then-not-order_ok c =
    let ordered = rw (clean c.ranges.n) at c.order_ok.ensures in
    rw (orders_ok, and_first_false _ (sym ordered ∙ c.if-not-order_ok.true))

pub returns : goal.returns
unfolding orders_ok
returns c =
    let ordered = rw (clean c.ranges.n) at c.order_ok.ensures in
    let a = c.args in
    let x = a.orders.now in
    rw (orders_ok, sym ordered ∙ c.if-not-order_ok.false, ← list_all-front order_ok x a.count c.requires)
    (all_from_yields_List order_ok _ _ _ c.all.ensures.ran (YieldsList-from_slice (take a.count x) cc) (λ v b q k. search (rules, tests)))
