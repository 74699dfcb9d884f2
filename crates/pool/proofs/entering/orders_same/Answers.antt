use borrow.Author.Tests.{le-leb, lt-leb}
use lib.IntN.{ℤ}
use lib.ListN.{take}
use Rattle.std.proofs.Common.{rules}
use Rattle.std.proofs.lemmas.Iterator.{YieldsList-from_slice}
use Rattle.std.proofs.lemmas.Iterator.Search.{all_from_yields_List}
use Rattle.tables.specs.Checks.{same}
use Rattle.tables.proofs.Checks.{same_read}
use Rattle.pool.specs.Pool.{orders_same}
use Rattle.pool.proofs.Fronts.{list_all-front}
use Rattle.pool.proofs.entering.orders_same.Goals as goal

pub returns-then-count-lt1 : goal.returns-then-count-lt1
unfolding orders_same
returns-then-count-lt1 c = rw (orders_same, lt-leb 1 c.args.count c.if-count-lt1.true)

pub returns : goal.returns
unfolding orders_same
returns c =
    let a = c.args in
    let x = a.orders.now in
    let p = λ (v : ℤ). same v a.n in
    rw (orders_same, le-leb 1 a.count c.if-count-lt1.false, ← list_all-front p x a.count c.requires)
    (all_from_yields_List p _ _ _ c.all.ensures.ran (YieldsList-from_slice (take a.count x) cc)
    (λ v b q k. (search rules, search (rules, same_read))))
