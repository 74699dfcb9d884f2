use Rattle.tables.specs.Answers.{after}
use Rattle.tables.proofs.Answers.{handed_on}
use Rattle.sums.proofs.Checked.{both_checks}
use Rattle.sums.proofs.checking.check_sums.Goals as goal

pub returns-in_err-check_bounds : goal.returns-in_err-check_bounds
unfolding after
returns-in_err-check_bounds c =
    both_checks _ _ (rw c.terms_in.ensures at c.in_err-check_bounds.ensures) (handed_on c.from_residual.ensures.1)

pub returns : goal.returns
unfolding after
returns c = both_checks _ _ (rw c.terms_in.ensures at c.in_ok-check_bounds.ensures) c.check_ends.ensures
