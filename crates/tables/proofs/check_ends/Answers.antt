use mathlib.Core.Path.{sym, ◌∙◌}
use Rattle.tables.specs.Checks.{ends_checks}
use Rattle.tables.proofs.Checks.{first_passes, first-refuses, first-none}
use Rattle.tables.proofs.check_ends.Goals as goal

pub returns-then-nowhere_crossed : goal.returns-then-nowhere_crossed
unfolding ends_checks
returns-then-nowhere_crossed c = sym (first_passes _ _ (sym c.nowhere_crossed.ensures ∙ c.if-nowhere_crossed.true) ∙ first-none)

pub returns : goal.returns
unfolding ends_checks
returns c = sym (first-refuses _ _ (sym c.nowhere_crossed.ensures ∙ c.if-nowhere_crossed.false))
