use Rattle.tables.specs.Problem.{constraint_sized}
use Rattle.tables.proofs.problem.constraint_sized.Goals as goal

pub returns-then-sizes_ok : goal.returns-then-sizes_ok
unfolding constraint_sized
returns-then-sizes_ok c = rw (← c.sizes_ok.ensures, c.if-sizes_ok.true)

pub returns-else-sizes_ok : goal.returns-else-sizes_ok
unfolding constraint_sized
returns-else-sizes_ok c = rw (← c.sizes_ok.ensures, c.if-sizes_ok.false)
