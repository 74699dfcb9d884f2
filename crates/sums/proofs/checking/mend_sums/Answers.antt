use Rattle.tables.specs.Answers.{after}
use Rattle.tables.proofs.Answers.{handed_on}
use Rattle.sums.proofs.Checked.{mended_both}
use Rattle.sums.proofs.checking.mend_sums.Goals as goal

pub returns-in_err-mend_bounds-clause-mended : goal.returns-in_err-mend_bounds-clause-mended
unfolding after
returns-in_err-mend_bounds-clause-mended c =
    mended_both _ _ (rw c.terms_in-terms.ensures at c.in_err-mend_bounds.ensures) (handed_on c.from_residual.ensures.1)

pub returns-clause-mended : goal.returns-clause-mended
unfolding after
returns-clause-mended c =
    mended_both _ _ (rw c.terms_in-terms.ensures at c.in_ok-mend_bounds.ensures) c.check_ends.ensures
