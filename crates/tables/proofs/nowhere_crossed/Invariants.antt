-- The loop's invariant: none of the first k numbers of low is above that of high. The measure is how many are left.
use mathlib.Core.Path.{◌≡◌}
use mathlib.Core.Bool.{true}
use Prim.Native.Nat.{◌≤◌}
use Rattle.tables.specs.Checks.{nowhere_crossed}
use Rattle.tables.proofs.nowhere_crossed.Given as goal

abbrev pub invariant-loop-k : goal.invariant-loop-k
invariant-loop-k l = (l.k ≤ l.count) × (nowhere_crossed l.k l.low l.high ≡ true)
