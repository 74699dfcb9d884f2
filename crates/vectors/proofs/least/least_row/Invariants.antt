-- The loop's invariant: s is what the pairs passed add.
use mathlib.Core.Path.{◌≡◌}
use Rattle.vectors.specs.LeastShares.{least_row}
use Rattle.vectors.proofs.least.least_row.Given as goal

abbrev pub invariant-loop-k : goal.invariant-loop-k
invariant-loop-k l = l.s ≡ least_row l.bounds.order l.bounds.low.now l.bounds.high.now l.x l.i l.k
