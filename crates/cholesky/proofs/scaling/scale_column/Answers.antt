use mathlib.Core.Path.{◌≡◌}
use native.Mathlib.Omega.{arith}
use native.Mathlib.Numerals.{add-one}
use Rattle.integers.proofs.Machine.{clean_result}
use Rattle.cholesky.specs.Scale.{take_off}
use Rattle.cholesky.proofs.ScaledMatrix.{scaled_off}
use Rattle.cholesky.proofs.Filling.{filling_row, filling_end}
use Rattle.cholesky.proofs.scaling.scale_column.Goals as goal

pub loop-i-preserved : goal.loop-i-preserved
loop-i-preserved c =
    let order = c.requires.0.order in
    let l = c.loop-i in
    let n = c.args.n in
    rw (clean_result c.middle, add-one)
    (filling_row (omega arith) (omega arith) (rw (scaled_off (take_off n) n _ _ l.i c.args.j (omega arith)) c.middle.ensures) l.invariant)

pub returns : goal.returns
returns c =
    let l = c.loop-i in
    let order = c.requires.0.order in
    let e : l.i ≡ c.args.j = omega arith in
    rw (clean_result c.diagonal) (filling_end (filling_row (omega arith) (omega arith) c.diagonal.ensures (rw e at l.invariant)))
