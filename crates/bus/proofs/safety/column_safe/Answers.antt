use mathlib.Core.Path.{sym, ◌∙◌}
use native.Mathlib.Omega.{arith}
use Rattle.integers.proofs.Machine.{clean_element}
use Rattle.integers.proofs.Parts.{pos_nonneg}
use Rattle.tables.proofs.Checks.{and_first_false}
use Rattle.cholesky.specs.Store.{upper}
use Rattle.cholesky.specs.Rows.{product_range}
use Rattle.bus.specs.Running.{column_safe}
use Rattle.bus.proofs.safety.column_safe.Goals as goal

pub factor_columns-requires : goal.factor_columns-requires
factor_columns-requires c = (c.requires.0, c.requires.1)

pub returns-then-not-factor_columns : goal.returns-then-not-factor_columns
unfolding column_safe
returns-then-not-factor_columns c = sym (and_first_false _ (sym c.factor_columns.ensures ∙ c.if-not-factor_columns.true))

pub column_within-requires : goal.column_within-requires
column_within-requires c = (c.requires.0, omega arith, c.requires.1, pos_nonneg product_range)

pub returns-then-not-column_within : goal.returns-then-not-column_within
unfolding column_safe upper
returns-then-not-column_within c =
    rw (sym c.factor_columns.ensures ∙ c.if-not-factor_columns.false)
    (sym (and_first_false _ (sym c.column_within.ensures ∙ c.if-not-column_within.true)))

pub returns : goal.returns
unfolding column_safe upper
returns c =
    let t = c.args.t.now in
    let j = c.args.j in
    rw (
      sym c.factor_columns.ensures ∙ c.if-not-factor_columns.false,
      sym c.column_within.ensures ∙ c.if-not-column_within.false,
      clean_element (upper t j j) c.result-1.given,
    )
