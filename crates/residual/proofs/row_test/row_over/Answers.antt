use mathlib.Core.Path.{◌≡◌, ◌∙◌}
use native.Mathlib.Omega.{arith}
use native.Mathlib.Numerals.{add-one}
use Rattle.std.proofs.lemmas.Int.{ints}
use Rattle.tables.specs.Matrix.{at}
use Rattle.residual.proofs.Rows.{left-none, left-more, left-all, first_fits, left_fits}
use Rattle.residual.proofs.row_test.row_over.Goals as goal

pub overflow_add-over-2 : goal.overflow_add-over-2
unfolding at
overflow_add-over-2 c = let f = first_fits c.requires.0.ranged c.requires.1 in omega (arith, ints)

pub overflow_sub-over : goal.overflow_sub-over
overflow_sub-over c = let f = left_fits c.requires.0.ranged c.requires.1 c.loop-j-test.true in omega (arith, ints)

pub loop-j-init : goal.loop-j-init
unfolding at
loop-j-init c =
    let a = c.args in
    let f = first_fits c.requires.0.ranged c.requires.1 in
    let e = left-none (at a.n a.low.now) (at a.n a.high.now) a.i in
    omega (arith, ints)

pub loop-j-preserved : goal.loop-j-preserved
loop-j-preserved c =
    let a = c.args in
    let f = left_fits c.requires.0.ranged c.requires.1 c.loop-j-test.true in
    rw (add-one, ← left-more (at a.n a.low.now) (at a.n a.high.now) a.i c.loop-j.j) (omega (arith, ints))

pub returns : goal.returns
returns c =
    let a = c.args in
    let e : c.loop-j.j ≡ a.n = omega arith in
    (rw e at c.loop-j.invariant) ∙ left-all (at a.n a.low.now) (at a.n a.high.now) a.i a.n c.requires.1
