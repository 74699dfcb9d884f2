-- The loop's invariant: the pairs before i are turned.
use mathlib.Core.Path.{◌≡◌}
use Rattle.tables.specs.Matrix.{at}
use Rattle.residual.specs.Scratch.{turned_column}
use Rattle.residual.proofs.residual.turn_column.Given as goal

abbrev pub invariant-loop-i : goal.invariant-loop-i
invariant-loop-i l =
    (l.low ≡ turned_column l.n (at l.n l.factor) l.initial.low l.j l.i) ×
    (l.high ≡ turned_column l.n (at l.n l.factor) l.initial.high l.j l.i)
