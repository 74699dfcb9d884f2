use mathlib.Core.Path.{refl, ◌∙◌}
use Prim.Native.Nat.{◌*◌}
use Rattle.integers.proofs.Machine.{clean}
use Rattle.tables.specs.Ranges.{greatest_order, table_room}
use Rattle.tables.proofs.Matrix.{table_fits}
use Rattle.tables.proofs.Admission.{loaded}
use Rattle.rides.proofs.Readings.{reading-loaded}
use Rattle.rides.proofs.reading.read_held.Goals as goal

pub returns : goal.returns
returns g c =
    let a = c.args in
    let n = a.n in
    let h = c.requires.0 in
    let whole = g.E.Element.laws.numbers_whole in
    let e = whole a.low.now (n * n) c.requires.1 in
    let f = whole a.high.now (n * n) c.requires.2 in
    let v = loaded table_room _ refl e (table_fits h) c.load.ensures in
    let w = loaded table_room _ refl f (table_fits h) c.load-2.ensures in
    let p = loaded greatest_order _ refl (whole a.from.now n c.requires.3) h c.load-3.ensures in
    let q = loaded greatest_order _ refl (whole a.to.now n c.requires.4) h c.load-4.ensures in
    (rw (clean c.ranges.running, clean c.ranges.allowance) at c.read_checked.ensures)
    ∙ reading-loaded n e f v w p q a.running a.allowance
