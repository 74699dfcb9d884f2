-- The loop's invariant: g(i) is filled in for each i passed.
use Rattle.tables.specs.Ranges.{greatest_order}
use Rattle.tables.specs.Buffers.{Filled}
use Rattle.centre.specs.Centred.{gradient_of}
use Rattle.centre.proofs.gradients.Given as goal

abbrev pub invariant-loop-k : goal.invariant-loop-k
invariant-loop-k l = Filled greatest_order l.k (gradient_of l.problem) l.g
