use mathlib.Core.Path.{◌≡◌, sym}
use mathlib.Core.Bool.{Bool}
use native.Mathlib.Omega.{arith}
use Rattle.tables.specs.Pairs.{row_bounded, tables_bounded}
use Rattle.tables.proofs.Checks.{all_none, all_more, all_false, call_false, call_true}
use Rattle.tables.proofs.tables_bounded.Given.{Over}
use Rattle.tables.proofs.tables_bounded.Goals as goal
use Rattle.tables.proofs.tables_bounded.Goals.{At-loop-i}

-- what row i gives
abbrev row : (g : Over) → At-loop-i g → Bool
row g c = let a = c.args in row_bounded a.bounds.order g.P.PairTest.even a.bounds.low.now a.bounds.high.now c.loop-i.i

pub loop-i-init : goal.loop-i-init
unfolding tables_bounded
loop-i-init g c = (omega arith, all_none _)

pub returns-then-not-row_bounded : goal.returns-then-not-row_bounded
unfolding tables_bounded
returns-then-not-row_bounded g c =
    let l = c.loop-i in
    sym (all_false _ _ l.i c.loop-i-test.true (call_false {t = row g (goal.at.returns-then-not-row_bounded g c).At-loop-i} c.row_bounded.ensures c.if-not-row_bounded.true-raw))

pub loop-i-preserved : goal.loop-i-preserved
unfolding tables_bounded
loop-i-preserved g c =
    let l = c.loop-i in
    (omega arith, all_more _ l.i l.invariant.1 (call_true {t = row g (goal.at.loop-i-preserved g c).At-loop-i} c.row_bounded.ensures c.if-not-row_bounded.false-raw))

pub returns : goal.returns
unfolding tables_bounded
returns g c =
    let e : c.loop-i.i ≡ c.args.bounds.order = omega arith in
    sym (rw e at c.loop-i.invariant.1)
