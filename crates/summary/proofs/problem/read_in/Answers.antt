use Rattle.std.proofs.Common.{sym}
use Rattle.summary.proofs.Spelled.{fields_fit, order_small, problem_rooms}
use Rattle.summary.proofs.problem.read_in.Goals as goal

pub problem_in-problem-requires : goal.problem_in-problem-requires
problem_in-problem-requires c = fields_fit _ _ (sym c.in_ok-check_fields.ensures) c.requires

pub mend_problem-requires : goal.mend_problem-requires
mend_problem-requires c =
    rw c.problem_in-problem.ensures (problem_rooms _ _ (order_small _ _ (sym c.in_ok-check_fields.ensures)))
