-- There is no solved vector, or the one that there is shows it, or not.
use mathlib.Core.Path.{sym, ◌∙◌}
use native.Mathlib.Omega.{arith}
use Rattle.integers.proofs.Machine.{clean}
use Rattle.tables.proofs.Matrix.{nth-tabulate}
use Rattle.verdict.proofs.Listing.{shows_ext, solved-none, solved-one, solved-entries}
use Rattle.verdict.proofs.listed.solved_shows.Goals as goal

pub returns-in_err-x : goal.returns-in_err-x
returns-in_err-x c = rw c.from_residual.ensures (solved-none _ _ _ (rw (clean c.ranges.s, c.in_err-x.was) at c.solve.ensures))

pub shows-requires : goal.shows-requires
shows-requires c = solved-entries c.requires.0 c.args.s c.requires.1 _ (omega arith) (rw (clean c.ranges.s) at c.in_ok-x.ensures)

pub returns : goal.returns
returns c =
    rw c.then_some.ensures
    (solved-one _ _ _ _ (rw (clean c.ranges.s) at c.in_ok-x.ensures) _
    (shows_ext _ _ _ _ _ (nth-tabulate _ _) ∙ sym c.shows.ensures))
