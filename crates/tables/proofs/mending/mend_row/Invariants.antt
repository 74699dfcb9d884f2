-- The loop's invariant: the first j pairs of row i are joined, in both tables. The measure is how many are left.
use mathlib.Core.Path.{◌≡◌}
use Prim.Native.Nat.{◌≤◌}
use Rattle.integers.specs.Numbers.{min_ℤ, max_ℤ}
use Rattle.tables.specs.Pairs.{joined_row}
use Rattle.tables.proofs.mending.mend_row.Given as goal

abbrev pub invariant-loop-j : goal.invariant-loop-j
invariant-loop-j l = (l.j ≤ l.i) × (l.low ≡ joined_row max_ℤ l.n l.i l.j l.initial.low) × (l.high ≡ joined_row min_ℤ l.n l.i l.j l.initial.high)
