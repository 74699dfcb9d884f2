-- The loop's invariant: the entries passed are filled.
use Rattle.tried.specs.Search.{Diagonal}
use Rattle.tried.proofs.diagonal.Given as goal

abbrev pub invariant-loop-k : goal.invariant-loop-k
invariant-loop-k l = Diagonal l.bounds.order l.bounds.low.now l.w l.p l.k
