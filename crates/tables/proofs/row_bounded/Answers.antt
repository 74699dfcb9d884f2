use mathlib.Core.Path.{◌≡◌, sym, ◌∙◌}
use Prim.Native.Nat.{suc}
use native.Mathlib.Omega.{arith}
use Rattle.tables.specs.Matrix.{at}
use Rattle.tables.specs.Pairs.{pair_bounded}
use Rattle.integers.proofs.Machine.{clean_result}
use Rattle.tables.proofs.Checks.{all_none, all_more, all_false, call_false, call_true}
use Rattle.tables.proofs.row_bounded.Given.{Over}
use Rattle.tables.proofs.row_bounded.Goals as goal
use Rattle.tables.proofs.row_bounded.Goals.{After-passes}

-- what the test found of the pair
found : (g : Over) (c : After-passes g) → let i = c.args.i in
    let j = c.loop-j.j in
    let L = at c.args.bounds.order c.args.bounds.low.now in
    let U = at c.args.bounds.order c.args.bounds.high.now in
    c.passes.result ≡ pair_bounded g.P.PairTest.even (L i j) (L j i) (U i j) (U j i)
found g c =
    rw (
      clean_result c.entry-l ∙ c.entry-l.ensures,
      clean_result c.entry-u ∙ c.entry-u.ensures,
      clean_result c.entry ∙ c.entry.ensures,
      clean_result c.entry-in-loop-j ∙ c.entry-in-loop-j.ensures,
    ) at c.passes.ensures

pub loop-j-init : goal.loop-j-init
loop-j-init g c = (omega arith, all_none _)

pub returns-then-not-passes : goal.returns-then-not-passes
returns-then-not-passes g c =
    sym (all_false _ (suc c.args.i) c.loop-j.j (omega arith) (call_false (found g (goal.at.returns-then-not-passes g c).After-passes) c.if-not-passes.true-raw))

pub loop-j-preserved : goal.loop-j-preserved
loop-j-preserved g c =
    let l = c.loop-j in
    (omega arith, all_more _ l.j l.invariant.1 (call_true (found g (goal.at.loop-j-preserved g c).After-passes) c.if-not-passes.false-raw))

pub returns : goal.returns
returns g c =
    let e : c.loop-j.j ≡ suc c.args.i = omega arith in
    sym (rw e at c.loop-j.invariant.1)
