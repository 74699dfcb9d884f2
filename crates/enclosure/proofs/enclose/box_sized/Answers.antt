use borrow.Author.Tests.{eq-eqb, ne_eqb}
use Rattle.enclosure.specs.Act.{box_sizes}
use Rattle.enclosure.proofs.enclose.box_sized.Goals as goal

pub returns-then-centre-vector : goal.returns-then-centre-vector
unfolding box_sizes
returns-then-centre-vector c = rw (← c.constraint_sized.ensures, c.if-constraint_sized.true, eq-eqb _ _ c.if-centre-vector.true)

pub returns-else-centre-vector : goal.returns-else-centre-vector
unfolding box_sizes
returns-else-centre-vector c = rw (← c.constraint_sized.ensures, c.if-constraint_sized.true, ne_eqb _ _ c.if-centre-vector.false)

pub returns-else-constraint_sized : goal.returns-else-constraint_sized
unfolding box_sizes
returns-else-constraint_sized c = rw (← c.constraint_sized.ensures, c.if-constraint_sized.false)
