use native.Mathlib.Omega.{arith}
use native.Mathlib.Numerals.{add-one}
use Rattle.std.proofs.lemmas.Int.{ints}
use Rattle.integers.specs.Numbers.{min_ℤ}
use Rattle.tables.specs.Matrix.{at}
use Rattle.residual.proofs.Rows.{so_far_more}
use Rattle.residual.proofs.row_test.least_over.Goals as goal

pub loop-i-preserved : goal.loop-i-preserved
unfolding min_ℤ
loop-i-preserved c =
    let a = c.args in
    let e = c.loop-i.invariant in
    let f = c.row_over-over.ensures in
    rw (add-one, ← so_far_more a.n (at a.n a.low.now) (at a.n a.high.now) c.loop-i.i (omega arith)) (grind (arith, ints))
