use Rattle.std.proofs.Common.{rules}
use mathlib.Core.Path.{refl, sym}
use native.Mathlib.Omega.{arith}
use Rattle.integers.proofs.Machine.{clean_element}
use Rattle.tables.proofs.Answers.{handed_on}
use Rattle.sums.specs.Required.{stated}
use Rattle.sums.proofs.Fronts.{mended_rooms, mended_answer, mended-front, mended-ranged}
use Rattle.sums.proofs.Laying.{stated_where, ranged_where}
use Rattle.samples.specs.Samples.{factor_of}
use Rattle.samples.proofs.Laid.{gains-front, gains-ranged, sums-refused, sums-added, added_where}
use Rattle.samples.proofs.adding.add_checked.Goals as goal

-- the order is that of a sample and stays it, and so do the linear terms and the running limit until the sample is added
pub returns-in_err-mend_sums-clause-sums : goal.returns-in_err-mend_sums-clause-sums
unfolding stated
returns-in_err-mend_sums-clause-sums c =
    let s = c.args.sums.now in
    let order = c.requires.1 in
    let rooms = rw order at c.requires.2.1 in
    let checks = rw (c.within-within.ensures, clean_element s.limit (omega arith), order) at c.in_err-mend_sums.ensures.mended in
    rw (handed_on c.from_residual.ensures.1, order)
    (stated_where (search rules) (search rules)
    (record { outcome = sums-refused _ _ _ (sym (mended_answer _ rooms checks s.limit)); rooms = mended_rooms _ rooms checks }))

pub add_fitted-requires : goal.add_fitted-requires
add_fitted-requires c =
    let s = c.args.sums.now in
    let order = c.requires.1 in
    let rooms = rw order at c.requires.2.1 in
    let checks = rw (c.within-within.ensures, clean_element s.limit (omega arith), order) at c.in_ok-mend_sums.ensures.mended in
    rw (clean_element c.lay_gains-limit.result c.lay_gains-limit.type_inv, order) (
      (omega arith, ranged_where (search rules) (search rules) (mended-ranged _ rooms checks s.limit refl refl)),
      gains-ranged c.args.m c.requires.0 c.lay_gains-limit.ensures,
    )

pub returns-clause-sums : goal.returns-clause-sums
returns-clause-sums c =
    let s = c.args.sums.now in
    let order = c.requires.1 in
    let rooms = rw order at c.requires.2.1 in
    let p = c.add_fitted.ensures.place.order in
    let checks = rw (c.within-within.ensures, clean_element s.limit (omega arith), order) at c.in_ok-mend_sums.ensures.mended in
    rw (p, order)
    (added_where _ _ _ _
    (rw (clean_element c.lay_gains-limit.result c.lay_gains-limit.type_inv, p, order) at c.add_fitted.ensures.sums)
    (search rules)
    (search rules)
    (sums-added (factor_of c.args.m) c.args.m.draw _ (sym (mended_answer _ rooms checks s.limit))
    (gains-front _ _ c.lay_gains-limit.ensures)
    (mended-front _ rooms checks s.limit refl)))
