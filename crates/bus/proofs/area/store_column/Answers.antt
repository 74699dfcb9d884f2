use Prim.Native.Nat.{◌+◌, ◌*◌}
use native.Mathlib.Numerals.{add-one}
use native.Mathlib.Omega.{arith}
use mir.Syntax.{w64}
use Rattle.integers.proofs.Machine.{clean_element}
use Rattle.words.proofs.Laws.{length-numbers_of}
use Rattle.tables.specs.Matrix.{tabulate}
use Rattle.tables.proofs.Matrix.{length-tabulate}
use Rattle.cholesky.specs.Store.{stride, upper, column_of}
use Rattle.bus.specs.Area.{run_numbers, columns_at, area_of, laid_column}
use Rattle.bus.proofs.Areas.{area_of_lem, area-more, laid_none}
use Rattle.bus.proofs.area.store_column.Goals as goal

pub loop-i-init : goal.loop-i-init
unfolding laid_column column_of upper tabulate
loop-i-init c =
    let r = area_of c.args.run.now in
    rw (laid_none r (columns_at + stride * c.args.j)) (area_of_lem (record { each = λ i. omega (arith, c.type_inv.run i) }) c.requires.0)

pub loop-i-preserved : goal.loop-i-preserved
unfolding laid_column column_of upper tabulate
loop-i-preserved c =
    let l = c.loop-i in
    let a = c.args in
    let v = upper a.t.now l.i a.j in
    rw (add-one, c.store_signed.ensures, clean_element v (omega arith))
    (area-more (area_of a.run.now) (columns_at + stride * a.j) (column_of a.t.now a.j l.i) v (length-tabulate l.i _) (omega arith)
    (length-numbers_of w64 a.run.now run_numbers) (record { sfits = omega arith }) l.invariant)
