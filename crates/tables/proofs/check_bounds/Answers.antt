use mathlib.Core.Path.{sym, ◌∙◌}
use mathlib.Core.Bool.{true}
use Rattle.tables.proofs.Checks.{others_outside, bounded-passed}
use Rattle.tables.proofs.check_bounds.Goals as goal

pub returns : goal.returns
returns c = rw c.if-within.false (sym (others_outside _ _ _))

pub returns-then-tables_bounded : goal.returns-then-tables_bounded
returns-then-tables_bounded c = rw c.if-within.true (sym (bounded-passed _ _ _ true (sym c.tables_bounded.ensures ∙ c.if-tables_bounded.true)))

pub returns-then-within : goal.returns-then-within
returns-then-within c = rw c.if-within.true c.check_apart.ensures
