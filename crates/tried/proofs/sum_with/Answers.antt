-- By the sign of the entry.
use mathlib.Core.Path.{sym}
use native.Mathlib.Omega.{arith}
use Rattle.integers.proofs.Machine.{clean, within-+, fits_within}
use Rattle.tried.proofs.Signs.{sign_above, sign-under, sign-none}
use Rattle.tried.proofs.sum_with.Goals as goal

pub overflow_add-result : goal.overflow_add-result
overflow_add-result c =
    rw (clean c.ranges.sum, clean c.ranges.plus) (fits_within (within-+ c.requires.0 c.requires.1) (omega arith))

pub overflow_add-result-then-entry-lt0 : goal.overflow_add-result-then-entry-lt0
overflow_add-result-then-entry-lt0 c =
    rw (clean c.ranges.sum, clean c.ranges.minus) (fits_within (within-+ c.requires.0 c.requires.2) (omega arith))

pub returns-then-entry-gt0 : goal.returns-then-entry-gt0
returns-then-entry-gt0 c =
    rw (clean (overflow_add-result c), clean c.ranges.sum, clean c.ranges.plus)
    (sym (sign_above _ _ _ _ (rw (clean c.ranges.entry) at c.if-entry-gt0.true)))

pub returns-then-entry-lt0 : goal.returns-then-entry-lt0
returns-then-entry-lt0 c =
    let e = clean c.ranges.entry in
    rw (clean (overflow_add-result-then-entry-lt0 c), clean c.ranges.sum, clean c.ranges.minus)
    (sym (sign-under _ _ _ _ (rw e at c.if-entry-gt0.false) (rw e at c.if-entry-lt0.true)))

pub returns : goal.returns
returns c =
    let e = clean c.ranges.entry in
    rw (clean c.ranges.sum) (sym (sign-none _ _ _ _ (rw e at c.if-entry-gt0.false) (rw e at c.if-entry-lt0.false)))
