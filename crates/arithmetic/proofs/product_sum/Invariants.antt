-- The loop's invariant: s is the sum of the products passed.
use mathlib.Core.Path.{◌≡◌}
use lib.IntN.{◌*ℤ◌}
use Rattle.integers.specs.Sum.{sum}
use Rattle.tables.specs.Matrix.{nth}
use Rattle.arithmetic.proofs.product_sum.Given as goal

abbrev pub invariant-loop-k : goal.invariant-loop-k
invariant-loop-k l = l.s ≡ sum l.k (λ i. nth l.x i *ℤ nth l.y i)
