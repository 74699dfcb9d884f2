-- The loop's invariant: the entries passed have the row added.
use Rattle.tried.specs.Search.{Added}
use Rattle.tried.proofs.add_row.Given as goal

abbrev pub invariant-loop-k : goal.invariant-loop-k
invariant-loop-k l = Added l.n l.pairs l.start l.d l.from l.to l.k
