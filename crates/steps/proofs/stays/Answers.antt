use mathlib.Core.Path.{sym, ◌∙◌}
use native.Mathlib.Omega.{arith}
use lib.IntN.{ℤ, pos, ◌-ℤ◌}
use Rattle.integers.proofs.Parts.{le_z_true, le_z_false}
use Rattle.integers.proofs.Machine.{clean, clean_element, fits_within, within--, lt_holds, lt_fails}
use Rattle.tables.proofs.Checks.{all_more, all_false}
use Rattle.cholesky.specs.Store.{upper}
use Rattle.steps.proofs.Diagonals.{stays_is, stays-start}
use Rattle.steps.proofs.stays.Goals as goal
use Rattle.steps.proofs.stays.Goals.{In-loop-i}

pub overflow_sub-s : goal.overflow_sub-s
unfolding upper
overflow_sub-s c =
    let l = c.loop-i in
    rw (clean c.ranges.e, clean_element _ c.t12-1.given)
    (fits_within (within-- (c.requires.0.on l.i (omega arith) c.loop-i-test.true) c.requires.2) (omega arith))

-- what is left of the diagonal entry i
abbrev left : In-loop-i → ℤ
left i = upper i.args.s.now i.loop-i.i i.loop-i.i -ℤ i.args.e

pub loop-i-init : goal.loop-i-init
loop-i-init c = stays-start _ _ _

pub returns-then-s-i-lt1 : goal.returns-then-s-i-lt1
unfolding upper
returns-then-s-i-lt1 c =
    let l = c.loop-i in
    let q = rw (clean (overflow_sub-s c.before), clean c.ranges.e, clean_element _ c.t12-1.given) at c.if-s-i-lt1.true in
    sym (all_false _ _ l.i c.loop-i-test.true
    (stays_is _ _ _ l.i (omega arith) ∙ le_z_false {x = pos 1} {y = left c.before.before} (lt_holds q)))

pub loop-i-preserved : goal.loop-i-preserved
unfolding upper
loop-i-preserved c =
    let l = c.loop-i in
    let e = clean c.ranges.e in
    let q = rw (clean (overflow_sub-s c.before), e, clean_element _ c.t12-1.given) at c.if-s-i-lt1.false in
    rw e (all_more _ l.i (rw e at l.invariant)
    (stays_is _ _ _ l.i (omega arith) ∙ le_z_true {x = pos 1} {y = left c.before.before} (lt_fails q)))
