-- The loop's invariant: s is the sum of the shares passed.
use mathlib.Core.Path.{◌≡◌}
use Rattle.integers.specs.Sum.{sum}
use Rattle.vectors.specs.LeastShares.{least_share}
use Rattle.vectors.proofs.least.least_value.Given as goal

abbrev pub invariant-loop-i : goal.invariant-loop-i
invariant-loop-i l = l.s ≡ sum l.i (least_share l.bounds.order l.bounds.low.now l.bounds.high.now l.x)
