use mathlib.Core.Path.{◌≡◌, ◌∙◌}
use mathlib.Core.List.{[], ◌∷◌}
use Prim.Native.Nat.{◌+◌}
use native.Mathlib.Omega.{arith}
use lib.IntN.{ℤ, pos, ◌+ℤ◌}
use lib.Signed.{◌<ℤ◌}
use mir.Syntax.{w64}
use mir.Val.{to_z, of_z}
use Rattle.integers.proofs.Solver.{order, solver}
use Rattle.integers.proofs.Machine.{clean, fits_within, within_in, within_low, within-high, lt_holds, lt_fails, clean_element}
use Rattle.tables.specs.Ranges.{entry_range}
use Rattle.tables.specs.Bounded.{low_of, high_of}
use Rattle.tables.proofs.CheckedTables.{low-within}
use Rattle.lookahead.specs.Pairs.{under_range}
use Rattle.stiffness.specs.Bracket.{first_under}
use Rattle.stiffness.proofs.Descending.{found-entries, found-nonzero, lower_within, Further, after-hit, after-miss, started, arrived}
use Rattle.stiffness.proofs.least_bound.least_bound.Goals as goal
use Rattle.stiffness.proofs.least_bound.least_bound.Goals.{After-low_at-v, In-loop-below, After-quotient-v, In-None}

-- where the search starts
pub overflow_add-v : goal.overflow_add-v
overflow_add-v c =
    let b = c.args.bounds in
    let w = low-within b.checked c.requires c.requires in
    rw (clean_element c.low_at-v.result c.low_at-v.type_inv, c.low_at-v.ensures)
    (fits_within {m = entry_range + 1}
    (within_in (order (low_of b 0 0 ∷ []) (within_low w) (search solver depth 40 fits 20000) (omega arith))
    (order (low_of b 0 0 ∷ []) (within-high w) (search solver depth 40 fits 20000) (omega arith))) (omega arith))

begun : (c : After-low_at-v) → to_z w64 (of_z w64 (to_z w64 (of_z w64 c.low_at-v.result) +ℤ pos 1)) ≡ low_of c.args.bounds 0 0 +ℤ pos 1
begun c = clean (overflow_add-v c) ∙ rw (clean_element c.low_at-v.result c.low_at-v.type_inv, c.low_at-v.ensures)

-- the number that is asked for after `below`
pub overflow_add-below : goal.overflow_add-below
overflow_add-below c =
    let w = lower_within _ _ _ c.args.bounds.checked.bounds c.requires c.loop-below.invariant in
    let b : ℤ = to_z w64 c.loop-below.below-bits in
    fits_within {m = under_range + 2} (within_in (order (b ∷ []) (within_low w) (search solver depth 40 fits 20000) (omega arith))
    (order (b ∷ []) (within-high w) (search solver depth 40 fits 20000) (omega arith))) (omega arith)

-- some number is left between the two
left-between : (c : In-loop-below) → (to_z w64 c.loop-below.below-bits +ℤ pos 1) <ℤ to_z w64 c.loop-below.v-bits
left-between c = lt_holds (rw (clean (overflow_add-below c.before)) at c.loop-below-test.true)

-- the vector that a search found
pub quotient-v-requires : goal.quotient-v-requires
unfolding first_under
quotient-v-requires c =
    let b = c.args.bounds in
    let f = c.in-Some.ensures in
    let o = b.checked.order in
    (found-entries b.order _ _ _ _ f (omega arith), found-nonzero b.order _ _ _ _ f)

-- what one search leaves: the quotient of the first vector that is under w, or nothing is under it
hit : (c : After-quotient-v) → let b = c.args.bounds in let l = c.loop-below in
    Further b.order (low_of b) (high_of b) (to_z w64 l.below-bits) (to_z w64 l.v-bits)
    (to_z w64 l.below-bits) (to_z w64 (of_z w64 c.quotient-v.result)) c.in-Some.found
unfolding first_under
hit c =
    let w = c.next-w in
    let q = c.quotient-v in
    let found = rw (clean_element w.result w.type_inv) at c.in-Some.ensures in
    rw (clean_element q.result q.type_inv) (after-hit _ _ _ c.loop-below.invariant w.ensures _ (omega arith) found q.ensures)

miss : (c : In-None) → let b = c.args.bounds in let l = c.loop-below in
    Further b.order (low_of b) (high_of b) (to_z w64 l.below-bits) (to_z w64 l.v-bits)
    (to_z w64 (of_z w64 c.next-w.result)) (to_z w64 l.v-bits) l.x
unfolding first_under
miss c =
    let w = c.next-w in
    let e = clean_element w.result w.type_inv in
    rw e (after-miss _ _ _ c.loop-below.invariant w.ensures (rw e at c.in-None.ensures))

pub loop-below-init : goal.loop-below-init
loop-below-init c = let b = c.args.bounds.checked in rw (begun c) (started _ _ _ b.bounds b.order c.requires (omega arith))

pub loop-below-smaller-in-Some : goal.loop-below-smaller-in-Some
loop-below-smaller-in-Some c = (hit c).less

pub loop-below-preserved-in-Some : goal.loop-below-preserved-in-Some
loop-below-preserved-in-Some c = (hit c).narrowed

pub loop-below-preserved : goal.loop-below-preserved
loop-below-preserved c = (miss c).narrowed

pub returns : goal.returns
returns c =
    arrived _ _ _ c.requires c.loop-below.invariant (lt_fails (rw (clean (overflow_add-below c.before)) at c.loop-below-test.false))
