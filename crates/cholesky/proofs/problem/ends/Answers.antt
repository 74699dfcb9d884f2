use mathlib.Core.Path.{ap, ◌∙◌}
use Rattle.std.specs.Prelude.{is_ok}
use Rattle.cholesky.proofs.Store.{outcome_ends}
use Rattle.cholesky.proofs.problem.ends.Goals as goal

pub returns : goal.returns
returns c = c.is_ok.ensures.value ∙ ap is_ok c.factor_tables.ensures.outcome ∙ outcome_ends _
