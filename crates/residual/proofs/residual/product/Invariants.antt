-- The loop's invariant: s is the sum over the k passed.
use mathlib.Core.Path.{◌≡◌}
use lib.IntN.{◌*ℤ◌}
use Rattle.integers.specs.Sum.{sum}
use Rattle.tables.specs.Matrix.{at}
use Rattle.residual.proofs.residual.product.Given as goal

abbrev pub invariant-loop-k : goal.invariant-loop-k
invariant-loop-k live = live.s ≡ sum live.k (λ l. at live.n live.factor l live.i *ℤ at live.n live.factor l live.j)
