use mathlib.Core.Path.{◌≡◌, sym}
use native.Mathlib.Omega.{arith}
use Rattle.tables.specs.Matrix.{nth}
use Rattle.tables.specs.Checks.{nowhere_crossed}
use Rattle.tables.proofs.Checks.{all_none, all_more, all_false, read_less, read_not_less}
use Rattle.tables.proofs.nowhere_crossed.Goals as goal

pub loop-k-init : goal.loop-k-init
unfolding nowhere_crossed
loop-k-init c = (omega arith, all_none _)

pub returns-then-high-k : goal.returns-then-high-k
unfolding nowhere_crossed
returns-then-high-k c =
    let l = c.loop-k in
    let h = nth c.args.high.now l.k in
    let w = nth c.args.low.now l.k in
    sym (all_false _ c.args.count l.k (omega arith) (read_less h w c.t8-1.given c.t11-1.given c.if-high-k.true))

pub loop-k-preserved : goal.loop-k-preserved
unfolding nowhere_crossed
loop-k-preserved c =
    let l = c.loop-k in
    let h = nth c.args.high.now l.k in
    let w = nth c.args.low.now l.k in
    (omega arith, all_more _ l.k l.invariant.1 (read_not_less h w c.t8-1.given c.t11-1.given c.if-high-k.false))

pub returns : goal.returns
unfolding nowhere_crossed
returns c =
    let e : c.loop-k.k ≡ c.args.count = omega arith in
    sym (rw e at c.loop-k.invariant.1)
