-- The loop's invariant: what is left of the row after the radii of the columns before j.
use mathlib.Core.Path.{◌≡◌}
use Rattle.tables.specs.Matrix.{at}
use Rattle.residual.proofs.Rows.{left}
use Rattle.residual.proofs.row_test.row_over.Given as goal

abbrev pub invariant-loop-j : goal.invariant-loop-j
invariant-loop-j l = l.over ≡ left (at l.n l.low) (at l.n l.high) l.i l.j
