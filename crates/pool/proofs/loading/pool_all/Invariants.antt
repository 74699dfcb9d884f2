-- The loop's invariant: k problems are done, and the next one has room where they are loaded.
use mathlib.Core.Path.{◌≡◌}
use Rattle.sums.specs.Running.{Roomy}
use Rattle.pool.specs.Pool.{problem_at, problems_of}
use Rattle.pool.specs.Listed.{problems_in}
use Rattle.pool.proofs.Going.{GoingInPlace}
use Rattle.pool.proofs.loading.pool_all.Given as goal

abbrev pub invariant-loop-k : goal.invariant-loop-k
invariant-loop-k g l =
    let o = l.initial in
    let n = o.sums.order in
    let p = problem_at n (problems_of g.E.Element.numbers n l.count (problems_in l.lists)) in
    (l.problem.order ≡ o.sums.order) × Roomy l.problem × GoingInPlace p o.done o.sums l.k l.done l.sums
