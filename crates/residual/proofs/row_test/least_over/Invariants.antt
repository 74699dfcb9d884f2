-- The loop's invariant: the least over the rows before i.
use mathlib.Core.Path.{◌≡◌}
use Rattle.tables.specs.Matrix.{at}
use Rattle.residual.proofs.Rows.{so_far}
use Rattle.residual.proofs.row_test.least_over.Given as goal

abbrev pub invariant-loop-i : goal.invariant-loop-i
invariant-loop-i l = l.least ≡ so_far l.n (at l.n l.low) (at l.n l.high) l.i
