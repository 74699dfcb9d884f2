-- The loop's invariant: the columns before j are those of H.
use Rattle.tables.specs.Matrix.{at}
use Rattle.cholesky.specs.Scaling.{Scaled}
use Rattle.cholesky.proofs.scaling.scale.Given as goal

abbrev pub invariant-loop-j : goal.invariant-loop-j
invariant-loop-j l = Scaled l.n (at l.n l.low) (at l.n l.high) l.h l.j
