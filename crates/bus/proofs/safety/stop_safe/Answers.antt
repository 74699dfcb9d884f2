use mathlib.Core.Path.{sym, ◌∙◌}
use native.Mathlib.Omega.{arith}
use Rattle.integers.proofs.Parts.{pos_nonneg}
use Rattle.tables.proofs.Checks.{and_first_false}
use Rattle.solved.specs.Stopped.{stop_range}
use Rattle.bus.specs.Running.{stop_safe}
use Rattle.bus.proofs.safety.stop_safe.Goals as goal

pub factor_columns-requires : goal.factor_columns-requires
unfolding stop_safe
factor_columns-requires c = (c.requires.0, c.requires.2)

pub returns-then-not-factor_columns : goal.returns-then-not-factor_columns
unfolding stop_safe
returns-then-not-factor_columns c = sym (and_first_false _ (sym c.factor_columns.ensures ∙ c.if-not-factor_columns.true))

pub column_within-requires : goal.column_within-requires
unfolding stop_safe
column_within-requires c = (c.requires.0, omega arith, c.requires.2, pos_nonneg stop_range)

pub returns : goal.returns
unfolding stop_safe
returns c = rw (sym c.factor_columns.ensures ∙ c.if-not-factor_columns.false) c.column_within.ensures
