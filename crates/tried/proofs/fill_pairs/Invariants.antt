-- The loop's invariant: the entries passed are doubled.
use Rattle.tried.specs.Search.{FilledPairs}
use Rattle.tried.proofs.fill_pairs.Given as goal

abbrev pub invariant-loop-k : goal.invariant-loop-k
invariant-loop-k l = FilledPairs l.bounds.order l.bounds.low.now l.bounds.high.now l.pairs l.k
