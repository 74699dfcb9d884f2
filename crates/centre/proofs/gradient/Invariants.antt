-- The loop's invariant: least and greatest are the sums of the products passed, each the least and the greatest.
use mathlib.Core.Path.{◌≡◌}
use Rattle.integers.specs.Numbers.{min_ℤ, max_ℤ}
use Rattle.integers.specs.Sum.{sum}
use Rattle.centre.proofs.Magnitudes.{picked}
use Rattle.centre.proofs.gradient.Given as goal

abbrev pub invariant-loop-j : goal.invariant-loop-j
invariant-loop-j l =
    let p = l.problem in
    (l.least ≡ sum l.j (picked min_ℤ p.bounds.order p.bounds.low.now p.bounds.high.now p.centre.now l.k))
    × (l.greatest ≡ sum l.j (picked max_ℤ p.bounds.order p.bounds.low.now p.bounds.high.now p.centre.now l.k))
