-- What its parts leave is the reading.
use mir.Syntax.{w64}
use mir.Val.{SFits}
use Rattle.std.proofs.Common.{rules}
use Rattle.std.proofs.lemmas.Int.{to_z-of_z}
use Rattle.summary.proofs.Spelled.{reading_left}
use Rattle.summary.proofs.problem.mend_problem.Goals as goal

pub returns-clause-exact : goal.returns-clause-exact
returns-clause-exact c =
    let f : SFits w64 c.args.problem.now.constraint.limit = search rules in
    reading_left c.args.problem.now (rw (to_z-of_z w64 _ f) at c.mend_tables.ensures)
