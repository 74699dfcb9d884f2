-- The loop's invariant: s is the sum over the k passed.
use mathlib.Core.Path.{◌≡◌}
use Rattle.solved.specs.Stopped.{row_sum}
use Rattle.solved.proofs.row_sum.Given as goal

abbrev pub invariant-loop-k : goal.invariant-loop-k
invariant-loop-k l = l.s ≡ row_sum l.t l.x l.i l.k
