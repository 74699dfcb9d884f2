use mathlib.Core.Path.{sym, ◌∙◌}
use Prim.Native.Nat.{◌<◌}
use native.Mathlib.Omega.{arith}
use Rattle.sums.specs.Running.{sums_in, Leaving}
use Rattle.pool.specs.Pool.{problem_at, problems_of}
use Rattle.pool.specs.Listed.{problems_in}
use Rattle.pool.specs.Passing.{passing}
use Rattle.pool.proofs.Counting.{reached}
use Rattle.pool.proofs.Going.{stands, going_ready, going_whole, going, in_place_next}
use Rattle.pool.proofs.loading.pool_all.Goals as goal
use Rattle.pool.proofs.loading.pool_all.Goals.{After-begin_sums-done}

-- what is begun with
first : (g : _) (c : After-begin_sums-done g) → let o = c.begin_sums-done.new.sums in
    let p = problem_at o.order (problems_of g.E.Element.numbers o.order c.args.count (problems_in c.args.lists.now)) in
    Leaving (passing (sums_in c.args.sums.now) p 0) c.begin_sums-done.result o
unfolding passing
first g c = c.begin_sums-done.ensures.sums

pub load_problem-requires : goal.load_problem-requires
load_problem-requires g c =
    let i = c.loop-k.invariant in
    let h : c.loop-k.k < c.args.count = omega arith in
    (i.1, omega (arith, h, c.requires.1), rw (i.0, c.begin_sums-done.ensures.place.order) (reached c.requires.2 h))

pub add_loaded-done-requires : goal.add_loaded-done-requires
add_loaded-done-requires g c =
    let f = first g (goal.at.add_loaded-done-requires g c).After-begin_sums-done in
    let i = c.loop-k.invariant in
    let h : c.loop-k.k < c.args.count = omega arith in
    let o = c.load_problem.ensures.place.order in (
      (omega (arith, o, i.1.0), (c.load_problem.ensures.problem c.args.count h).rooms),
      (omega (arith, i.2.place.order, c.begin_sums-done.ensures.place.order, c.requires.0.0), (stands (going i.2) c.args.sums.now f).rooms),
      o ∙ i.0 ∙ sym i.2.place.order,
      going_ready (going i.2) c.args.sums.now f,
    )

pub loop-k-preserved : goal.loop-k-preserved
loop-k-preserved g c =
    let i = c.loop-k.invariant in
    let h : c.loop-k.k < c.args.count = omega arith in
    let m = c.add_loaded-done.ensures in
    let next = rw i.0 at (c.load_problem.ensures.problem c.args.count h).sums in
    (m.problem.order ∙ c.load_problem.ensures.place.order ∙ i.0, m.rooms, in_place_next i.2 next m.place m.sums)

pub returns-clause-sums : goal.returns-clause-sums
returns-clause-sums g c =
    let f = first g (goal.at.returns-clause-sums g c).After-begin_sums-done in
    let whole = going_whole (going c.loop-k.invariant.2) c.args.sums.now f {m = c.args.count} (omega arith) in
    rw c.begin_sums-done.ensures.place.order at whole
