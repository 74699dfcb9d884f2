use mathlib.Core.Path.{◌≡◌, sym, ◌∙◌}
use mathlib.Core.Bool.{true}
use Rattle.integers.proofs.Machine.{clean}
use Rattle.tables.specs.Checks.{order_ok, entry_checks}
use Rattle.tables.proofs.Checks.{call_false, call_true, first_passes, first-refuses, first-none}
use Rattle.tables.proofs.entering.check_entry.Lts as lts
use Rattle.tables.proofs.entering.check_entry.Tie as tie
use Rattle.tables.proofs.entering.check_entry.Reads as reads
use Rattle.tables.proofs.entering.check_entry.Goals as goal

abbrev Else1 : Type 0
Else1 = lts.Else1 tie.the-claims reads.Pre reads.Post

ordered : (c : Else1) → order_ok c.args.n ≡ true
ordered c = rw (clean c.ranges.n) at (call_true c.order_ok.ensures c.if-not-order_ok.false-raw)

pub returns-then-not-order_ok : goal.returns-then-not-order_ok
unfolding entry_checks
returns-then-not-order_ok c = sym (first-refuses _ _ (rw (clean c.ranges.n) at (call_false c.order_ok.ensures c.if-not-order_ok.true-raw)))

pub returns-then-sized : goal.returns-then-sized
unfolding entry_checks
returns-then-sized c = sym (first_passes _ _ (ordered c.before) ∙ first_passes _ _ c.if-sized.true ∙ first-none)

pub returns : goal.returns
unfolding entry_checks
returns c = sym (first_passes _ _ (ordered c.before) ∙ first-refuses _ _ c.if-sized.false)
