use mathlib.Core.Path.{◌≡◌, sym}
use mathlib.Core.Bool.{true}
use Rattle.integers.proofs.Parts.{pos_nonneg}
use Rattle.tables.specs.Ranges.{linear_range}
use Rattle.tables.specs.Checks.{all_within, linear_within}
use Rattle.tables.proofs.Checks.{call_true, call_false, and_first_false}
use Rattle.tables.proofs.linear_within.Goals as goal

pub all_within-requires : goal.all_within-requires
unfolding linear_within
all_within-requires c = (c.requires.0, pos_nonneg linear_range)

pub returns-then-not-all_within : goal.returns-then-not-all_within
unfolding linear_within
returns-then-not-all_within c = sym (and_first_false _ (call_false c.all_within.ensures c.if-not-all_within.true-raw))

pub all_within-requires-2 : goal.all_within-requires-2
unfolding linear_within
all_within-requires-2 c = (c.requires.1, pos_nonneg linear_range)

pub returns : goal.returns
unfolding linear_within
returns c =
    let a = c.args in
    let e : all_within linear_range a.n a.low.now ≡ true = call_true c.all_within.ensures c.if-not-all_within.false-raw in
    rw e c.all_within-2.ensures
