use mathlib.Core.Path.{◌≡◌}
use mathlib.Core.Bool.{true}
use Rattle.integers.proofs.Parts.{le_z_true, le_z_false}
use Rattle.integers.proofs.Machine.{clean, lt_yes, lt_no}
use Rattle.tables.specs.Pairs.{entry_bounded, pair_meets}
use Rattle.tables.proofs.Checks.{call_false, call_true}
use Rattle.tables.proofs.pair_meets.Lts as lts
use Rattle.tables.proofs.pair_meets.Tie as tie
use Rattle.tables.proofs.pair_meets.Reads as reads
use Rattle.tables.proofs.pair_meets.Goals as goal

abbrev After-entry_bounded : Type 0
After-entry_bounded = lts.After-entry_bounded tie.the-claims reads.Pre reads.Post

abbrev After-entry_bounded2 : Type 0
After-entry_bounded2 = lts.After-entry_bounded2 tie.the-claims reads.Pre reads.Post

abbrev Else1 : Type 0
Else1 = lts.Else1 tie.the-claims reads.Pre reads.Post

abbrev Else2 : Type 0
Else2 = lts.Else2 tie.the-claims reads.Pre reads.Post

-- what the calls found
here : (c : After-entry_bounded) → let a = c.args in c.entry_bounded.result ≡ entry_bounded a.l a.u
here c = let f = c.ranges in rw (clean f.l, clean f.u) at c.entry_bounded.ensures

there : (c : After-entry_bounded2) → let a = c.args in c.entry_bounded-2.result ≡ entry_bounded a.lt a.ut
there c = let f = c.ranges in rw (clean f.lt, clean f.ut) at c.entry_bounded-2.ensures

here-yes : (c : Else1) → let a = c.args in entry_bounded a.l a.u ≡ true
here-yes c = call_true (here c.before) c.if-not-entry_bounded.false-raw

there-yes : (c : Else2) → let a = c.args in entry_bounded a.lt a.ut ≡ true
there-yes c = call_true (there c.before) c.if-not-entry_bounded-2.false-raw

pub returns-then-not-entry_bounded : goal.returns-then-not-entry_bounded
unfolding pair_meets
returns-then-not-entry_bounded c = rw (call_false (here c.before) c.if-not-entry_bounded.true-raw)

pub returns-then-not-entry_bounded-2 : goal.returns-then-not-entry_bounded-2
unfolding pair_meets
returns-then-not-entry_bounded-2 c = rw (here-yes c.before.before, call_false (there c.before) c.if-not-entry_bounded-2.true-raw)

pub returns-then-ut-l : goal.returns-then-ut-l
unfolding pair_meets
returns-then-ut-l c =
    let f = c.ranges in
    rw (here-yes c.before.before.before, there-yes c.before, le_z_false (lt_yes f.ut f.l c.if-ut-l.true))

pub returns : goal.returns
unfolding pair_meets
returns c =
    let f = c.ranges in
    rw (here-yes c.before.before.before, there-yes c.before, le_z_true (lt_no f.ut f.l c.if-ut-l.false), clean f.lt, clean f.u)
