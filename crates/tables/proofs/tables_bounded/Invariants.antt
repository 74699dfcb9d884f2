-- The loop's invariant: the first i rows pass. The measure is how many are left.
use mathlib.Core.Path.{◌≡◌}
use mathlib.Core.Bool.{true}
use Prim.Native.Nat.{◌≤◌}
use Rattle.tables.specs.Checks.{all}
use Rattle.tables.specs.Pairs.{row_bounded}
use Rattle.tables.proofs.tables_bounded.Given as goal

abbrev pub invariant-loop-i : goal.invariant-loop-i
invariant-loop-i g l = (l.i ≤ l.bounds.order) × (all l.i (row_bounded l.bounds.order g.P.PairTest.even l.bounds.low.now l.bounds.high.now) ≡ true)
