-- The loop's invariant: the products are taken off the entries before row a.
use Rattle.cholesky.specs.Rows.{Subtracted}
use Rattle.cholesky.proofs.row_step.subtract_products.Given as goal

abbrev pub invariant-loop-a : goal.invariant-loop-a
invariant-loop-a l = Subtracted l.initial.s l.i l.j l.r l.a l.s
