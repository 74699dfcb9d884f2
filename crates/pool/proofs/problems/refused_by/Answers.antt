use Rattle.sums.specs.Required.{stated}
use Rattle.pool.specs.Passing.{refused_by}
use Rattle.pool.proofs.problems.refused_by.Goals as goal

pub returns-in-Ok : goal.returns-in-Ok
unfolding stated refused_by
returns-in-Ok c = record { held = λ s. rw c.in-Ok.is }

pub returns-in-Err : goal.returns-in-Err
unfolding stated refused_by
returns-in-Err c = record { held = λ s. rw (c.in-Err.is, c.earlier.ensures) }
