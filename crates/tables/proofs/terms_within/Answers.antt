use mathlib.Core.Path.{◌≡◌, sym}
use mathlib.Core.Bool.{true, false}
use Rattle.integers.proofs.Machine.{clean}
use Rattle.integers.proofs.Parts.{pos_nonneg}
use Rattle.tables.specs.Ranges.{limit_range, centre_range}
use Rattle.tables.specs.Checks.{within, linear_within, terms_within}
use Rattle.tables.proofs.Checks.{call_true, call_false, and_first_false}
use Rattle.tables.proofs.terms_within.Lts as lts
use Rattle.tables.proofs.terms_within.Tie as tie
use Rattle.tables.proofs.terms_within.Reads as reads
use Rattle.tables.proofs.terms_within.Goals as goal

abbrev Else1 : Type 0
Else1 = lts.Else1 tie.the-claims reads.Pre reads.Post

-- the linear terms passed
linear : (c : Else1) → let a = c.args in linear_within a.n a.low.now a.high.now ≡ true
linear c = call_true c.linear_within.ensures c.if-not-linear_within.false-raw

pub linear_within-requires : goal.linear_within-requires
unfolding terms_within
linear_within-requires c = (c.requires.0, c.requires.1)

pub returns-then-not-linear_within : goal.returns-then-not-linear_within
unfolding terms_within
returns-then-not-linear_within c = sym (and_first_false _ (call_false c.linear_within.ensures c.if-not-linear_within.true-raw))

pub within-requires : goal.within-requires
unfolding terms_within
within-requires c = pos_nonneg limit_range

pub returns-then-not-within : goal.returns-then-not-within
unfolding terms_within
returns-then-not-within c =
    let f : within limit_range c.args.limit ≡ false = rw (clean c.ranges.limit) at (call_false c.within.ensures c.if-not-within.true-raw) in
    rw (linear c.before.before, f)

pub all_within-requires : goal.all_within-requires
unfolding terms_within
all_within-requires c = (c.requires.2, pos_nonneg centre_range)

pub returns : goal.returns
unfolding terms_within
returns c =
    let f : within limit_range c.args.limit ≡ true = rw (clean c.ranges.limit) at (call_true c.within.ensures c.if-not-within.false-raw) in
    rw (linear c.before.before.before, f) c.all_within.ensures
