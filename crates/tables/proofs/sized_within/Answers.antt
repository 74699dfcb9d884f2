use mathlib.Core.Path.{◌≡◌, refl}
use mathlib.Core.Bool.{true, false}
use Rattle.integers.proofs.Machine.{clean}
use Rattle.tables.proofs.Checks.{call_false, call_true}
use Rattle.tables.proofs.sized_within.Lts as lts
use Rattle.tables.proofs.sized_within.Tie as tie
use Rattle.tables.proofs.sized_within.Reads as reads
use Rattle.tables.proofs.sized_within.Goals as goal

abbrev Else1 : Type 0
Else1 = lts.Else1 tie.the-claims reads.Pre reads.Post

held : (c : Else1) → c.args.sized ≡ true
held c = call_true refl c.if-not-sized.false-raw

pub returns-then-not-sized : goal.returns-then-not-sized
returns-then-not-sized c = let e : c.args.sized ≡ false = call_false refl c.if-not-sized.true-raw in rw e

pub terms_within-requires : goal.terms_within-requires
terms_within-requires c = c.requires (held c)

pub returns : goal.returns
returns c = rw (held c.before) (rw (clean c.ranges.limit) at c.terms_within.ensures)
