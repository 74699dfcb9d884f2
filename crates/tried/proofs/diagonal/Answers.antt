use native.Mathlib.Numerals.{add-one}
use Rattle.integers.proofs.Machine.{clean, clean_element}
use Rattle.tried.proofs.Shares.{difference_fits, diagonal-more}
use Rattle.tried.proofs.diagonal.Goals as goal

pub overflow_sub-p : goal.overflow_sub-p
overflow_sub-p c =
    let p = c.requires in
    let g = c.args.bounds.checked in
    rw (clean_element c.low_at.result c.low_at.type_inv, c.low_at.ensures, clean c.ranges.w)
    (difference_fits _ _ _ g.order g.bounds.low_range p.1 c.loop-k-test.true)

pub loop-k-preserved : goal.loop-k-preserved
loop-k-preserved c =
    let p = c.requires in
    let g = c.args.bounds.checked in
    let e = clean c.ranges.w in
    rw (clean (overflow_sub-p c), clean_element c.low_at.result c.low_at.type_inv, c.low_at.ensures, e, add-one)
    (diagonal-more _ _ _ g.order g.bounds.low_range p.1 c.loop-k-test.true (rw e at c.loop-k.invariant))
