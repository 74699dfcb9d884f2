use native.Mathlib.Numerals.{add-one}
use native.Mathlib.Omega.{arith}
use Rattle.cholesky.proofs.Filling.{bounds-ranged}
use Rattle.bus.specs.Area.{laid_columns}
use Rattle.bus.proofs.Areas.{area_of_lem}
use Rattle.bus.proofs.Begun.{begun_more}
use Rattle.bus.proofs.starting.store_matrix.Goals as goal

pub loop-j-init : goal.loop-j-init
unfolding laid_columns
loop-j-init c = area_of_lem (record { each = λ i. omega (arith, c.type_inv.run i) }) c.requires

pub loop-j-preserved : goal.loop-j-preserved
unfolding laid_columns
loop-j-preserved c =
    let p = c.args.bounds.checked in
    let stored = rw add-one at c.store_column.ensures in
    rw add-one (begun_more _ _ p.order (bounds-ranged p.bounds) c.scale.ensures (omega arith) c.loop-j.invariant stored)
