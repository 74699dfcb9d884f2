-- The loop's invariant is the walk's, with the rows below i still to be done.
use Rattle.solved.proofs.Solving.{Solving}
use Rattle.solved.proofs.solve.Given as goal

abbrev pub invariant-loop-i : goal.invariant-loop-i
invariant-loop-i l = Solving l.n l.t l.fn.stop.column l.fn.stop.rows l.s l.x l.i
