-- The loop's invariant: the first l columns are those of a factor.
use mathlib.Core.Path.{◌≡◌}
use mathlib.Core.Bool.{true}
use Rattle.bus.specs.Running.{factor_columns}
use Rattle.bus.proofs.safety.factor_columns.Given as goal

abbrev pub invariant-loop-l : goal.invariant-loop-l
invariant-loop-l l = factor_columns l.t l.l ≡ true
