use mathlib.Core.Path.{◌≡◌, sym, ap, ◌∙◌}
use mathlib.Core.Bool.{true}
use Rattle.std.specs.Prelude.{Ok}
use Rattle.integers.proofs.Machine.{clean}
use Rattle.tables.specs.Checks.{order_ok}
use Rattle.tables.proofs.Checks.{order_usize}
use Rattle.tables.proofs.Admission.{order-known, ordered-yes, ordered-no}
use Rattle.tables.proofs.entering.order.Goals as goal
use Rattle.tables.proofs.entering.order.Goals.{Else-not-order_ok}

known : (c : Else-not-order_ok) → order_ok c.args.n ≡ true
known c = rw (clean c.ranges.n) at (sym c.order_ok.ensures ∙ c.if-not-order_ok.false)

pub overflow_cast-result : goal.overflow_cast-result
unfolding order_ok
overflow_cast-result c = order_usize c.ranges.n (known (goal.at.overflow_cast-result c).Else-not-order_ok)

pub returns-then-not-order_ok : goal.returns-then-not-order_ok
returns-then-not-order_ok c = sym (ordered-no c.args.n (rw (clean c.ranges.n) at (sym c.order_ok.ensures ∙ c.if-not-order_ok.true)))

pub returns : goal.returns
returns c =
    let e = known (goal.at.returns c).Else-not-order_ok in
    rw (clean c.ranges.n) (ap Ok (sym (order-known c.args.n e)) ∙ sym (ordered-yes c.args.n e))
