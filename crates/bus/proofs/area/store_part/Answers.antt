use native.Mathlib.Numerals.{add-one}
use native.Mathlib.Omega.{arith}
use lib.IntN.{pos}
use lib.ListN.{take}
use lib.Seq.{take-suc, length-take-le}
use mir.Syntax.{w64}
use Rattle.integers.proofs.Machine.{clean_element}
use Rattle.words.proofs.Laws.{length-numbers_of}
use Rattle.tables.specs.Matrix.{nth}
use Rattle.bus.specs.Area.{run_numbers, area_of}
use Rattle.bus.proofs.Areas.{area_of_lem, area-more, laid_none}
use Rattle.bus.proofs.area.store_part.Goals as goal

pub loop-i-init : goal.loop-i-init
loop-i-init c =
    let r = area_of c.args.run.now in
    rw (laid_none r c.args.first) (area_of_lem (record { each = λ i. omega (arith, c.type_inv.run i) }) c.requires.0)

pub loop-i-preserved : goal.loop-i-preserved
loop-i-preserved c =
    let l = c.loop-i in
    let a = c.args in
    let v = nth a.x.now l.i in
    rw (add-one, take-suc a.x.now l.i (pos 0) (omega arith), c.store_signed.ensures, clean_element v (omega arith))
    (area-more (area_of a.run.now) a.first (take l.i a.x.now) v (length-take-le l.i a.x.now (omega arith)) (omega arith)
    (length-numbers_of w64 a.run.now run_numbers) (record { sfits = omega arith }) l.invariant)
