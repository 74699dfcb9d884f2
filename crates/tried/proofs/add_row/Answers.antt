use native.Mathlib.Numerals.{add-one}
use native.Mathlib.Omega.{arith}
use Rattle.integers.proofs.Machine.{clean, clean_element}
use Rattle.tables.specs.Matrix.{nth}
use Rattle.tried.proofs.Shares.{added_more, sum_fits}
use Rattle.tried.proofs.add_row.Goals as goal

pub overflow_add-to : goal.overflow_add-to
overflow_add-to c =
    let p = c.requires in
    let r = c.row_entry in
    rw (clean_element r.result r.type_inv, r.ensures, clean_element (nth c.args.from.now c.loop-k.k) (omega arith))
    (sum_fits p.0 p.1 p.2 p.3 c.loop-k-test.true)

pub loop-k-preserved : goal.loop-k-preserved
loop-k-preserved c =
    let r = c.row_entry in
    rw (clean (overflow_add-to c), clean_element r.result r.type_inv, r.ensures)
    (rw (clean_element (nth c.args.from.now c.loop-k.k) (omega arith), add-one) (added_more c.loop-k-test.true c.loop-k.invariant))
