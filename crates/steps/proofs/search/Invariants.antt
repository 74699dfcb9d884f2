-- The loop's invariant is the search's, before bit b - 1. The measure is b.
use Rattle.cholesky.specs.Store.{upper}
use Rattle.steps.proofs.Searches.{Searching}
use Rattle.steps.proofs.search.Given as goal

abbrev pub invariant-loop-b : goal.invariant-loop-b
invariant-loop-b l = Searching l.n l.first l.last (upper l.h) l.t l.b
