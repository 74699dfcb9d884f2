-- The loop's invariant: the first k registers are reset.
use mathlib.Core.Path.{◌≡◌}
use mathlib.Core.List.{◌++◌}
use lib.ListN.{drop, replicate}
use Rattle.bus.proofs.registers.reset.Given as goal

abbrev pub invariant-loop-k : goal.invariant-loop-k
invariant-loop-k l = l.block ≡ replicate l.k 0 ++ drop l.k l.initial.block
