-- The loop's invariant: the columns before j are turned.
use mathlib.Core.Path.{◌≡◌}
use Rattle.tables.specs.Matrix.{at}
use Rattle.residual.specs.Scratch.{turned}
use Rattle.residual.proofs.residual.turn.Given as goal

abbrev pub invariant-loop-j : goal.invariant-loop-j
invariant-loop-j l = (l.low ≡ turned l.n (at l.n l.factor) l.initial.low l.j) × (l.high ≡ turned l.n (at l.n l.factor) l.initial.high l.j)
