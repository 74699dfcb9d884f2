use Prim.Native.Nat.{◌≤◌, ◌<◌}
use native.Mathlib.Omega.{arith}
use native.Mathlib.Numerals.{add-one}
use Rattle.integers.proofs.Machine.{clean, clean_element}
use Rattle.tables.specs.Ranges.{greatest_order}
use Rattle.cholesky.specs.Store.{upper}
use Rattle.cholesky.proofs.Rows.{taken_reads, taken_more, product_fits, difference_fits}
use Rattle.cholesky.proofs.row_step.subtract_products.Lts as lts
use Rattle.cholesky.proofs.row_step.subtract_products.Reads as reads
use Rattle.cholesky.proofs.row_step.subtract_products.Goals as goal

abbrev In-loop : Type 0
In-loop = lts.In-loop reads.Pre reads.Post goal.the-invariant-loop-a goal.the-decreases-loop-a

-- where entry (a, j) stands, and r(i,a)
index : (c : In-loop) →
    (c.args.i < c.loop-a.a) × (c.loop-a.a ≤ c.args.j) × (c.args.j < greatest_order)
index c = (omega arith, omega arith, c.requires.0.inside)

pub overflow_mul-s-in-loop-a : goal.overflow_mul-s-in-loop-a
unfolding upper
overflow_mul-s-in-loop-a c =
    let p = c.requires in
    let e = clean c.ranges.r in
    rw (e, clean_element _ c.s-1.given) (product_fits (rw e at c.loop-a.invariant) p.0 p.1 (index c.before).0 (index c.before).1)

pub overflow_sub-s : goal.overflow_sub-s
unfolding upper
overflow_sub-s c =
    let p = c.requires in
    let e = clean c.ranges.r in
    rw (clean (overflow_mul-s-in-loop-a c.before), e, clean_element (upper c.loop-a.s c.loop-a.a c.args.j) c.s-in-loop-a-1.given, clean_element _ c.s-1.given)
    (difference_fits (rw e at c.loop-a.invariant) p.0 p.1 (index c.before.before).0 (index c.before.before).1)

pub loop-a-preserved : goal.loop-a-preserved
unfolding upper
loop-a-preserved c =
    let x = index c.before.before in
    let e = clean c.ranges.r in
    let w = rw e at c.loop-a.invariant in
    rw (clean (overflow_sub-s c), clean (overflow_mul-s-in-loop-a c.before), e, clean_element (upper c.loop-a.s c.loop-a.a c.args.j) c.s-in-loop-a-1.given, clean_element _ c.s-1.given, add-one)
    (taken_more w x.0 x.1 x.2 (taken_reads w x.0 (omega (arith, x.1, x.2))))
