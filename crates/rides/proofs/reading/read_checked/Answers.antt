use mathlib.Core.Path.{sym}
use Rattle.std.specs.Prelude.{Err}
use native.Mathlib.Omega.{arith}
use Rattle.integers.proofs.Machine.{clean, clean_element}
use Rattle.tables.specs.Problem.{constraint_of}
use Rattle.tables.proofs.Answers.{handed_on, after-refused, after-passed}
use Rattle.rides.specs.Reading.{checked_reading}
use Rattle.rides.proofs.Readings.{limit_fits}
use Rattle.sums.proofs.Checked.{limits_passed}
use Rattle.rides.proofs.reading.read_checked.Goals as goal

pub returns-in_err-check_sums : goal.returns-in_err-check_sums
unfolding checked_reading
returns-in_err-check_sums c =
    let checks = rw (
      c.limits_in.ensures,
      clean c.ranges.allowance,
      clean_element c.args.sums.limit (omega arith),
    ) at c.in_err-check_sums.ensures in
    rw (handed_on c.from_residual.ensures.1) (after-refused Err _ _ (sym checks))

pub overflow_add-result : goal.overflow_add-result
overflow_add-result c =
    let a = c.args in
    let q = a.sums in
    let checks = rw (
      c.limits_in.ensures,
      clean c.ranges.allowance,
      clean_element c.args.sums.limit (omega arith),
    ) at c.in_ok-check_sums.ensures in
    rw (clean c.ranges.allowance, clean_element c.args.sums.limit (omega arith))
    (limit_fits _ _ (limits_passed _ (constraint_of a.n q.low.now q.high.now q.from.now q.to.now q.limit) (sym checks)))

pub returns : goal.returns
unfolding checked_reading
returns c =
    let checks = rw (
      c.limits_in.ensures,
      clean c.ranges.allowance,
      clean_element c.args.sums.limit (omega arith),
    ) at c.in_ok-check_sums.ensures in
    rw (clean (overflow_add-result c), clean c.ranges.allowance, clean_element c.args.sums.limit (omega arith))
    (after-passed Err _ (sym checks))
