-- The loop's invariant: the steps before k are stored, and the table holds what is left of H.
use Prim.Native.Nat.{◌<◌}
use lib.IntN.{pos}
use lib.Signed.{◌≤ℤ◌}
use Rattle.tables.specs.Matrix.{at}
use Rattle.cholesky.specs.Scale.{scaled}
use Rattle.cholesky.specs.Store.{upper}
use Rattle.steps.specs.Steps.{step_at}
use Rattle.cholesky.proofs.Walked.{Walked}
use Rattle.steps.proofs.Stored.{Stored}
use Rattle.steps.proofs.steps_at.Given as goal

abbrev pub invariant-loop-k : goal.invariant-loop-k
invariant-loop-k l =
    Stored l.bounds.order (step_at l.bounds.order (at l.bounds.order l.bounds.low.now) (at l.bounds.order l.bounds.high.now)) l.k l.t
    × Walked (scaled l.bounds.order (at l.bounds.order l.bounds.low.now) (at l.bounds.order l.bounds.high.now)) l.h l.k l.bounds.order
    × (l.k < l.bounds.order → pos 1 ≤ℤ upper l.h l.k l.k)
