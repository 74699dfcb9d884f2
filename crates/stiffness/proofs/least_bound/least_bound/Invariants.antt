-- The loop's invariant: no tried vector is under `below`, and x holds the first that is under v, once one was found.
use lib.IntN.{nat_abs, ◌-ℤ◌}
use Rattle.tables.specs.Bounded.{low_of, high_of}
use Rattle.stiffness.specs.Descent.{Narrowed}
use Rattle.stiffness.proofs.least_bound.least_bound.Given as goal

abbrev pub invariant-loop-below : goal.invariant-loop-below
invariant-loop-below l = Narrowed l.bounds.order (low_of l.bounds) (high_of l.bounds) l.below l.v l.x

abbrev pub decreases-loop-below : goal.decreases-loop-below
decreases-loop-below l = nat_abs (l.v -ℤ l.below)
