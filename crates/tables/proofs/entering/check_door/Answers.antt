use mathlib.Core.Path.{◌≡◌, refl, sym, ◌∙◌}
use Rattle.integers.proofs.Machine.{clean}
use Rattle.tables.specs.Checks.{first_refusal, order_of, entry_checks}
use Rattle.tables.proofs.Answers.{handed_on}
use Rattle.tables.proofs.Checks.{no-more-checks}
use Rattle.tables.proofs.Admission.{order_small, order_fits, mended-after}
use Rattle.tables.proofs.entering.check_door.Goals as goal
use Rattle.tables.proofs.entering.check_door.Goals.{After-check_entry, After-order_of}

-- checks 1 and 2
entry : (c : After-check_entry) → c.check_entry.result ≡ first_refusal (entry_checks c.args.n c.args.sized)
entry c = rw (clean c.ranges.n) at c.check_entry.ensures

order : (c : After-order_of) → c.order_of.result ≡ order_of c.args.n
order c = rw (clean c.ranges.n) at c.order_of.ensures

pub returns-in_err-check_entry : goal.returns-in_err-check_entry
returns-in_err-check_entry c =
    let r = handed_on c.from_residual.ensures.1 in
    let e = sym (entry (goal.at.returns-in_err-check_entry c).After-check_entry) ∙ c.in_err-check_entry.was in
    rw r record { answered = sym (no-more-checks _ _ _ e); low-size = refl; high-size = refl; low = λ q. cc q; high = λ q. cc q }

pub check_laid-requires : goal.check_laid-requires
check_laid-requires c = rw (order (goal.at.check_laid-requires c).After-order_of) (order_small _, order_fits _ refl, c.requires)

pub returns : goal.returns
returns c =
    mended-after _ (sym (entry (goal.at.returns c).After-check_entry) ∙ c.in_ok-check_entry.was) (rw (order (goal.at.returns c).After-order_of) at c.check_laid.ensures)
