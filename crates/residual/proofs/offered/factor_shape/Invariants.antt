-- The loop's invariant: the first i rows have their shape.
use mathlib.Core.Path.{◌≡◌}
use mathlib.Core.Bool.{true}
use Rattle.tables.specs.Matrix.{at}
use Rattle.tables.specs.Checks.{all}
use Rattle.residual.specs.FactorTest.{factor_entry}
use Rattle.residual.proofs.offered.factor_shape.Given as goal

abbrev pub invariant-loop-i : goal.invariant-loop-i
invariant-loop-i live = all live.i (λ k. all live.n (λ j. factor_entry k j (at live.n live.factor k j))) ≡ true
