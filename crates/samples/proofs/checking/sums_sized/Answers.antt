use borrow.Author.Tests.{eq-eqb, ne_eqb}
use Rattle.samples.specs.Gathering.{sums_sized}
use Rattle.samples.proofs.checking.sums_sized.Goals as goal

pub returns-then-constraint_sized : goal.returns-then-constraint_sized
unfolding sums_sized
returns-then-constraint_sized g c =
    rw (
      eq-eqb _ _ c.if-order-eq-FACTOR_COUNT.true,
      ← c.taken.ensures,
      ← c.taken-2.ensures,
      ← c.taken-one.ensures,
      ← c.constraint_sized.ensures,
      c.if-constraint_sized.true,
    )

pub returns-else-constraint_sized : goal.returns-else-constraint_sized
unfolding sums_sized
returns-else-constraint_sized g c =
    rw (
      eq-eqb _ _ c.if-order-eq-FACTOR_COUNT.true,
      ← c.taken.ensures,
      ← c.taken-2.ensures,
      ← c.constraint_sized.ensures,
      c.if-constraint_sized.false,
    )

pub returns-else-order-eq-FACTOR_COUNT : goal.returns-else-order-eq-FACTOR_COUNT
unfolding sums_sized
returns-else-order-eq-FACTOR_COUNT g c = rw (ne_eqb _ _ c.if-order-eq-FACTOR_COUNT.false)
