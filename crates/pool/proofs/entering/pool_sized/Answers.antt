use borrow.Author.Tests.{eq-eqb, ne_eqb}
use Rattle.pool.specs.Act.{pool_sized}
use Rattle.pool.proofs.entering.pool_sized.Goals as goal

pub returns-then-constraint_sized-2 : goal.returns-then-constraint_sized-2
unfolding pool_sized
returns-then-constraint_sized-2 c = rw (
  pool_sized,
  ← c.constraint_sized.ensures,
  c.if-constraint_sized.true,
  eq-eqb _ _ c.if-limit-unit.true,
  ← c.constraint_sized-then-limit-unit.ensures,
  c.if-constraint_sized-2.true,
)

pub returns-else-constraint_sized-2 : goal.returns-else-constraint_sized-2
unfolding pool_sized
returns-else-constraint_sized-2 c = rw (
  pool_sized,
  ← c.constraint_sized.ensures,
  c.if-constraint_sized.true,
  eq-eqb _ _ c.if-limit-unit.true,
  ← c.constraint_sized-then-limit-unit.ensures,
  c.if-constraint_sized-2.false,
)

pub returns-else-limit-unit : goal.returns-else-limit-unit
unfolding pool_sized
returns-else-limit-unit c = rw (pool_sized, ← c.constraint_sized.ensures, c.if-constraint_sized.true, ne_eqb _ _ c.if-limit-unit.false)

pub returns-else-constraint_sized : goal.returns-else-constraint_sized
unfolding pool_sized
returns-else-constraint_sized c = rw (pool_sized, ← c.constraint_sized.ensures, c.if-constraint_sized.false)
