use mathlib.Core.Path.{sym, ◌∙◌}
use mathlib.Core.Bool.{false}
use Rattle.tables.proofs.Checks.{bounded-passed}
use Rattle.tables.proofs.check_apart.Goals as goal

pub returns-then-tables_bounded : goal.returns-then-tables_bounded
returns-then-tables_bounded c = sym (bounded-passed _ _ _ false (sym c.tables_bounded.ensures ∙ c.if-tables_bounded.true))

pub find_refusal-requires : goal.find_refusal-requires
find_refusal-requires c = sym c.tables_bounded.ensures ∙ c.if-tables_bounded.false

pub returns : goal.returns
returns c = c.find_refusal.ensures
