-- The loop's invariant is the filling's, before row i.
use Rattle.tables.specs.Matrix.{at}
use Rattle.cholesky.proofs.Filling.{Filling}
use Rattle.cholesky.proofs.scaling.scale_column.Given as goal

abbrev pub invariant-loop-i : goal.invariant-loop-i
invariant-loop-i l = Filling l.n (at l.n l.low) (at l.n l.high) l.h l.j l.i
