use borrow.Author.Tests.{eq-eqb, ne_eqb}
use Rattle.tables.specs.Pairs.{pair_even}
use Rattle.tables.proofs.Checks.{same_read}
use Rattle.tables.proofs.pair_even.Goals as goal

pub returns-then-l-lt : goal.returns-then-l-lt
unfolding pair_even
returns-then-l-lt c = let f = c.ranges in rw (← same_read f.l f.lt, ← same_read f.u f.ut, eq-eqb _ _ c.if-l-lt.true)

pub returns-else-l-lt : goal.returns-else-l-lt
unfolding pair_even
returns-else-l-lt c = let f = c.ranges in rw (← same_read f.l f.lt, ← same_read f.u f.ut, ne_eqb _ _ c.if-l-lt.false)
