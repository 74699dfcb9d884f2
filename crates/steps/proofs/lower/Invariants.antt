-- The loop's invariant: the diagonal entries from first to i - 1 are lowered.
use Rattle.steps.specs.Tables.{Lowered}
use Rattle.steps.proofs.lower.Given as goal

abbrev pub invariant-loop-i : goal.invariant-loop-i
invariant-loop-i l = Lowered l.first l.i l.e l.initial.s l.s
