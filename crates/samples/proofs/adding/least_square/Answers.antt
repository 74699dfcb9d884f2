use native.Mathlib.Omega.{arith}
use Rattle.integers.proofs.Machine.{clean, clean_element}
use Rattle.tables.specs.Matrix.{nth}
use Rattle.samples.proofs.Near.{product_fits}
use Rattle.samples.proofs.adding.least_square.Goals as goal

pub returns : goal.returns
returns c =
    let a = c.args in
    let l = c.requires.0.low a.i c.requires.1 in
    let h = c.requires.0.high a.i c.requires.1 in
    rw (clean_element c.smaller.result c.smaller.type_inv)
    (rw (
      clean_element (nth a.low.now a.i) (omega arith),
      clean_element (nth a.high.now a.i) (omega arith),
      clean (product_fits l l),
      clean (product_fits h h),
    ) at c.smaller.ensures)
