-- What each store leaves is an area, so that the next one finds the numbers before it.
use Prim.Native.Nat.{◌*◌}
use native.Mathlib.Omega.{arith}
use lib.IntN.{pos}
use lib.ListN.{take, set}
use lib.Seq.{length-take-le}
use Rattle.integers.proofs.Machine.{fits, read_i64}
use Rattle.tables.proofs.Matrix.{table_fits}
use Rattle.cholesky.proofs.Filling.{bounds-ranged}
use Rattle.bus.specs.Area.{order_at, low_at, high_at, blank_area, begun_area}
use Rattle.bus.proofs.Areas.{Area, area_blank, area-read, area_set, area-laid}
use Rattle.bus.proofs.Begun.{front_fit, begun-columns}
use Rattle.bus.proofs.starting.begin.Goals as goal

pub overflow_mul-n : goal.overflow_mul-n
overflow_mul-n c = record { fits = omega (arith, table_fits c.args.bounds.checked.order) }

pub returns : goal.returns
unfolding begun_area
returns c =
    let t = c.args.bounds.checked in
    let r = bounds-ranged t.bounds in
    let n = c.args.bounds.order in
    let l = c.args.bounds.low.now in
    let u = c.args.bounds.high.now in
    let o = t.order in
    let stored = rw (read_i64 n (omega (arith, o))) at c.store_number.ensures in
    let ordered : Area c.store_number.new.run (set blank_area order_at (pos n)) =
    area_set {r = blank_area} (rw c.blank.ensures area_blank) order_at (pos n) (fits (omega (arith, o))) stored in
    let low =
    area-laid ordered low_at (take (n * n) l) (omega (arith, table_fits o, length-take-le (n * n) l t.low-length))
    (front_fit n l t.low-length r.low) c.store_part.ensures in
    let high =
    area-laid low high_at (take (n * n) u) (omega (arith, table_fits o, length-take-le (n * n) u t.high-length))
    (front_fit n u t.high-length r.high) c.store_part-2.ensures in
    rw (area-read high, begun-columns) at c.store_matrix.ensures
