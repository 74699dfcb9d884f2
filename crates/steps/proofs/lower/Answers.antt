use Prim.Native.Nat.{◌<◌}
use native.Mathlib.Omega.{arith}
use native.Mathlib.Numerals.{add-one}
use Rattle.integers.proofs.Machine.{clean, clean_element, fits_within, within--}
use Rattle.tables.specs.Ranges.{greatest_order}
use Rattle.cholesky.specs.Store.{upper}
use Rattle.steps.proofs.Diagonals.{lower_start, lower_reads, lower_more}
use Rattle.steps.proofs.lower.Goals as goal
use Rattle.steps.proofs.lower.Goals.{In-loop-i}

-- where the diagonal entry i stands
inside : (c : In-loop-i) → c.loop-i.i < greatest_order
inside c = let p = c.requires.0 in omega (arith, p.order, c.loop-i-test.true)

pub overflow_sub-s : goal.overflow_sub-s
unfolding upper
overflow_sub-s c =
    let l = c.loop-i in
    rw (clean c.ranges.e, clean_element _ c.s-1.given, lower_reads (inside c.before) l.invariant)
    (fits_within (within-- (c.requires.0.on l.i (omega arith) c.loop-i-test.true) c.requires.2) (omega arith))

pub loop-i-init : goal.loop-i-init
loop-i-init c = lower_start c.requires.0.size

pub loop-i-preserved : goal.loop-i-preserved
unfolding upper
loop-i-preserved c =
    let l = c.loop-i in
    let e = clean c.ranges.e in
    rw (clean (overflow_sub-s c), e, clean_element _ c.s-1.given, add-one)
    (lower_more (omega arith) (inside c.before) (rw e at l.invariant))
