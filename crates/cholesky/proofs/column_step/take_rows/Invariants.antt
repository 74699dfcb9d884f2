-- The loop's invariant is the column's, before row i.
use Rattle.cholesky.proofs.Taken.{RowsTaking}
use Rattle.cholesky.proofs.column_step.take_rows.Given as goal

abbrev pub invariant-loop-i : goal.invariant-loop-i
invariant-loop-i l = RowsTaking l.initial.s l.j l.i l.s
