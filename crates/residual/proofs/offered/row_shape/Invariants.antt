-- The loop's invariant: the first j entries of the row have their shape.
use mathlib.Core.Path.{◌≡◌}
use mathlib.Core.Bool.{true}
use Rattle.tables.specs.Matrix.{nth}
use Rattle.tables.specs.Checks.{all}
use Rattle.residual.specs.FactorTest.{factor_entry}
use Rattle.residual.proofs.offered.row_shape.Given as goal

abbrev pub invariant-loop-j : goal.invariant-loop-j
invariant-loop-j l = all l.j (λ k. factor_entry l.i k (nth l.row k)) ≡ true
