-- The loop's invariant: the first i rows are joined, in both tables. The measure is how many are left.
use mathlib.Core.Path.{◌≡◌}
use Prim.Native.Nat.{◌≤◌}
use Rattle.integers.specs.Numbers.{min_ℤ, max_ℤ}
use Rattle.tables.specs.Pairs.{joined_rows}
use Rattle.tables.proofs.mending.mend.Given as goal

abbrev pub invariant-loop-i : goal.invariant-loop-i
invariant-loop-i l = (l.i ≤ l.n) × (l.low ≡ joined_rows max_ℤ l.n l.i l.initial.low) × (l.high ≡ joined_rows min_ℤ l.n l.i l.initial.high)
