-- 3, 4 and 5 with the tables mended, and then 16.
use Rattle.integers.proofs.Machine.{clean}
use Rattle.tables.specs.Checks.{bounds_checks}
use Rattle.tables.specs.Entering.{Mended}
use Rattle.tables.specs.Problem.{problem_of, problem_within}
use Rattle.tables.specs.declared.problem.Problem.{Problem}
use Rattle.tables.proofs.Answers.{handed_on}
use Rattle.summary.proofs.Spelled.{mended-refused, mended-passed}
use Rattle.summary.proofs.problem.mend_tables.Goals as goal
use Rattle.summary.proofs.problem.mend_tables.Goals.{After-check_laid}

-- the problem that is handed in, in its parts
abbrev problem : After-check_laid → Problem
problem c = let a = c.args in problem_of a.n a.low.now a.high.now a.from.now a.to.now a.limit a.centre.now

laid : (c : After-check_laid) → let d = (problem c).constraint in
    Mended (bounds_checks
    (problem_within (problem c)) d.order d.low d.high) d.order d.low d.high c.check_laid.result c.check_laid.new.l c.check_laid.new.u
laid c = rw (rw (clean c.ranges.limit) at c.sized_within-within.ensures) at c.check_laid.ensures

pub returns-in_err-check_laid : goal.returns-in_err-check_laid
returns-in_err-check_laid c =
    let b = (goal.at.returns-in_err-check_laid c).After-check_laid in
    rw (handed_on c.from_residual.ensures.1) (mended-refused (problem b) (laid b) c.in_err-check_laid.was)

pub returns : goal.returns
returns c =
    let b = (goal.at.returns c).After-check_laid in
    mended-passed (problem b) (laid b) c.in_ok-check_laid.was c.check_ends.ensures
