-- The loop's invariant: what is looked for is the greatest below k.
use mathlib.Core.Path.{◌≡◌}
use Prim.Native.Nat.{◌-◌}
use Rattle.scaling.specs.Scaling.{greatest_of, stays_within, exponent}
use Rattle.scaling.proofs.exponents.exponent.Given as goal

abbrev pub invariant-loop-k : goal.invariant-loop-k
invariant-loop-k l = exponent l.u ≡ greatest_of (stays_within l.u) (l.k - 1)
