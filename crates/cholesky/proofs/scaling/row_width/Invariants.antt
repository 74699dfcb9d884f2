-- The loop's invariant: w is the sum over the k passed.
use mathlib.Core.Path.{◌≡◌}
use Rattle.tables.specs.Matrix.{at, row_width}
use Rattle.cholesky.proofs.scaling.row_width.Given as goal

abbrev pub invariant-loop-k : goal.invariant-loop-k
invariant-loop-k l = l.w ≡ row_width l.k (at l.n l.low) (at l.n l.high) l.i
