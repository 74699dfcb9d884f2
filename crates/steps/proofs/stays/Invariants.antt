-- The loop's invariant: at least 1 is left of the diagonal entries from first to i - 1.
use mathlib.Core.Path.{◌≡◌}
use mathlib.Core.Bool.{true}
use Rattle.tables.specs.Checks.{all}
use Rattle.cholesky.specs.Store.{upper}
use Rattle.steps.specs.Tables.{stays}
use Rattle.steps.proofs.stays.Given as goal

abbrev pub invariant-loop-i : goal.invariant-loop-i
invariant-loop-i l = all l.i (stays (upper l.s) l.first l.e) ≡ true
