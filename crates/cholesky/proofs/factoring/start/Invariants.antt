-- The loop's invariant: no diagonal entry before j is below 1.
use Prim.Native.Nat.{ℕ, ◌<◌}
use lib.IntN.{pos}
use lib.Signed.{◌≤ℤ◌}
use Rattle.cholesky.specs.Store.{upper}
use Rattle.cholesky.proofs.factoring.start.Given as goal

abbrev pub invariant-loop-j : goal.invariant-loop-j
invariant-loop-j live = (l : ℕ) → l < live.j → pos 1 ≤ℤ upper live.s l l
