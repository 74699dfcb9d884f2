-- The loop's invariant: least is the least sum of the terms passed.
use mathlib.Core.Path.{◌≡◌}
use Rattle.tables.specs.Matrix.{nth}
use Rattle.centre.specs.Centre.{least_sum}
use Rattle.centre.proofs.least_terms.Given as goal

abbrev pub invariant-loop-k : goal.invariant-loop-k
invariant-loop-k l = let p = l.problem in l.least ≡ least_sum l.k (nth p.from.now) (nth p.to.now) (nth p.centre.now)
