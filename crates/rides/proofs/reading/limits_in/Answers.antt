use mathlib.Core.Path.{◌≡◌, sym, ◌∙◌}
use mathlib.Core.Bool.{true}
use native.Mathlib.Omega.{arith}
use lib.IntN.{pos}
use lib.Signed.{◌≤ℤ◌}
use Rattle.integers.proofs.Parts.{≤ℤ_trans, le_z_true, le_z_false}
use Rattle.integers.proofs.Machine.{clean, lt_yes, lt_no, fits_literal, fits_within, within-+, within_in}
use Rattle.tables.specs.Ranges.{limit_range}
use Rattle.tables.specs.Checks.{within}
use Rattle.tables.proofs.Checks.{and_first_false, within_of}
use Rattle.rides.specs.Reading.{allowance_range, limits_in}
use Rattle.rides.proofs.reading.limits_in.Goals as goal
use Rattle.rides.proofs.reading.limits_in.Goals.{Else-not-within, Else-allowance-lt0, Else-allowance-gt-ALLOWANCE_RANGE}

-- the tests that passed
running : (c : Else-not-within) → within limit_range c.args.running ≡ true
running c = rw (clean c.ranges.running) at (sym c.within.ensures ∙ c.if-not-within.false)

least : (c : Else-allowance-lt0) → pos 0 ≤ℤ c.args.allowance
least c = lt_no c.ranges.allowance (fits_literal {z = pos 0} tt) c.if-allowance-lt0.false

most : (c : Else-allowance-gt-ALLOWANCE_RANGE) → c.args.allowance ≤ℤ pos allowance_range
most c = lt_no (fits_literal {z = pos allowance_range} tt) c.ranges.allowance c.if-allowance-gt-ALLOWANCE_RANGE.false

pub overflow_add-allowance : goal.overflow_add-allowance
overflow_add-allowance c =
    let p = goal.at.overflow_add-allowance c in
    rw (clean c.ranges.allowance, clean c.ranges.running)
    (fits_within
    (within-+ (within_in (≤ℤ_trans (record { le = tt }) (least p.Else-allowance-lt0)) (most p.Else-allowance-gt-ALLOWANCE_RANGE))
    (within_of limit_range _ (running p.Else-not-within)))
    (omega arith))

pub returns-then-not-within : goal.returns-then-not-within
unfolding limits_in
returns-then-not-within c = sym (and_first_false _ (rw (clean c.ranges.running) at (sym c.within.ensures ∙ c.if-not-within.true)))

pub returns-then-allowance-lt0 : goal.returns-then-allowance-lt0
unfolding limits_in
returns-then-allowance-lt0 c =
    let p = goal.at.returns-then-allowance-lt0 c in
    rw (running p.Else-not-within, le_z_false (lt_yes c.ranges.allowance (fits_literal {z = pos 0} tt) c.if-allowance-lt0.true))

pub returns-then-allowance-gt-ALLOWANCE_RANGE : goal.returns-then-allowance-gt-ALLOWANCE_RANGE
unfolding limits_in
returns-then-allowance-gt-ALLOWANCE_RANGE c =
    let p = goal.at.returns-then-allowance-gt-ALLOWANCE_RANGE c in
    rw (
      running p.Else-not-within,
      le_z_true (least p.Else-allowance-lt0),
      le_z_false (lt_yes (fits_literal {z = pos allowance_range} tt) c.ranges.allowance c.if-allowance-gt-ALLOWANCE_RANGE.true),
    )

pub returns : goal.returns
unfolding limits_in
returns c =
    let p = goal.at.returns c in
    let l = least p.Else-allowance-lt0 in
    let m = most p.Else-allowance-gt-ALLOWANCE_RANGE in
    let r = running p.Else-not-within in
    let fits = fits_within (within-+ (within_in (≤ℤ_trans (record { le = tt }) l) m) (within_of limit_range _ r)) (omega arith) in
    rw (r, le_z_true l, le_z_true m) (rw (clean c.ranges.allowance, clean c.ranges.running, clean fits) at c.within-2.ensures)
