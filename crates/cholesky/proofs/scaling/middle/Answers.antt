use mathlib.Core.Path.{◌∙◌}
use native.Mathlib.Omega.{arith}
use Rattle.integers.proofs.Machine.{clean}
use Rattle.tables.specs.Matrix.{at}
use Rattle.cholesky.proofs.Filling.{Placed, placed, clean-sum, middle_fits, doubled_fits}
use Rattle.cholesky.proofs.scaling.middle.Lts as lts
use Rattle.cholesky.proofs.scaling.middle.Reads as reads
use Rattle.cholesky.proofs.scaling.middle.Goals as goal

abbrev Start : Type 0
Start = lts.Start reads.Pre reads.Post

place : (c : Start) → Placed c.args.n c.args.i c.args.j c.args.low.now c.args.high.now
place c = placed c.requires.0 c.requires.1 c.requires.2

pub overflow_add-result : goal.overflow_add-result
unfolding at
overflow_add-result c =
    let p = c.requires in
    rw (clean-sum _ _ c.result-1.given c.result-2-1.given) (middle_fits p.0.order p.0.ranged p.1 p.2)

pub overflow_mul-result : goal.overflow_mul-result
unfolding at
overflow_mul-result c =
    let p = c.requires in
    rw (clean (overflow_add-result c), clean-sum _ _ c.result-1.given c.result-2-1.given) (doubled_fits p.0.order p.0.ranged p.1 p.2)

pub overflow_mul-at : goal.overflow_mul-at
unfolding at
overflow_mul-at c = omega (arith, (place c).small)

pub overflow_add-at : goal.overflow_add-at
unfolding at
overflow_add-at c = omega (arith, (place c).small)

pub offset_bounds-low-at : goal.offset_bounds-low-at
unfolding at
offset_bounds-low-at c = omega (arith, (place c).small)

pub bounds-low-at : goal.bounds-low-at
unfolding at
bounds-low-at c = (place c).low

pub offset_bounds-high-at : goal.offset_bounds-high-at
unfolding at
offset_bounds-high-at c = omega (arith, (place c.before).small)

pub bounds-high-at : goal.bounds-high-at
unfolding at
bounds-high-at c = (place c.before).high

pub returns : goal.returns
unfolding at
returns c = clean (overflow_mul-result c) ∙ rw (clean (overflow_add-result c), clean-sum _ _ c.result-1.given c.result-2-1.given)
