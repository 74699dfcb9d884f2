use native.Mathlib.Omega.{arith}
use native.Mathlib.Numerals.{add-one}
use lib.IntN.{pos, negsuc}
use Rattle.integers.proofs.Machine.{clean, clean_element}
use Rattle.tables.specs.Matrix.{nth}
use Rattle.tried.proofs.Shares.{filled_more, twice_fits}
use Rattle.tried.proofs.fill_pairs.Goals as goal

pub overflow_mul-pairs : goal.overflow_mul-pairs
overflow_mul-pairs c =
    let g = c.args.bounds.checked.bounds in
    rw (clean_element (nth c.args.bounds.low.now c.loop-k.k) (omega arith))
    (twice_fits _ g.low_range {c = pos 2} (record { size = omega arith }) c.loop-k-test.true)

pub overflow_mul-pairs-in-loop-k : goal.overflow_mul-pairs-in-loop-k
overflow_mul-pairs-in-loop-k c =
    let g = c.args.bounds.checked.bounds in
    rw (clean_element (nth c.args.bounds.high.now c.loop-k.k) (omega arith))
    (twice_fits _ g.high_range {c = negsuc 1} (record { size = omega arith }) c.loop-k-test.true)

pub loop-k-preserved : goal.loop-k-preserved
loop-k-preserved c =
    let b = c.args.bounds in
    let k = c.loop-k.k in
    rw (clean (overflow_mul-pairs c.before), clean_element (nth b.low.now k) (omega arith))
    (rw (clean (overflow_mul-pairs-in-loop-k c), clean_element (nth b.high.now k) (omega arith), add-one)
    (filled_more c.args.bounds.checked c.loop-k-test.true c.loop-k.invariant))
