-- The loop's invariant: r is not below the root, and its square fits 64 bits. The measure is r.
use Prim.Native.Nat.{◌+◌, ◌*◌, ◌^◌, ◌<◌}
use Rattle.integers.proofs.root.Given as goal

abbrev pub invariant-loop-above : goal.invariant-loop-above
invariant-loop-above l = (l.x < (l.above + 1) * (l.above + 1)) × (l.above < 2 ^ 32)

abbrev pub decreases-loop-above : goal.decreases-loop-above
decreases-loop-above l = l.above
