-- The loop's invariant is the row's, before column j.
use Rattle.cholesky.proofs.Rows.{RowGoing}
use Rattle.cholesky.proofs.row_step.take_columns.Given as goal

abbrev pub invariant-loop-j : goal.invariant-loop-j
invariant-loop-j l = RowGoing l.initial.s l.i l.end l.j l.s
