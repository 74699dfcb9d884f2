use mathlib.Core.Path.{◌≡◌}
use Rattle.integers.proofs.Machine.{clean}
use Rattle.tables.specs.Pairs.{pair_even, pair_bounded}
use Rattle.tables.proofs.ApartPairTest.passes.Goals as goal
use Rattle.tables.proofs.ApartPairTest.passes.Goals.{After-pair_even}

-- whether the halves agree
agreed : (c : After-pair_even) → let a = c.args in c.pair_even.result ≡ pair_even a.l a.lt a.u a.ut
agreed c = let f = c.ranges in rw (clean f.l, clean f.lt, clean f.u, clean f.ut) at c.pair_even.ensures

pub returns-then-pair_even : goal.returns-then-pair_even
unfolding pair_bounded
returns-then-pair_even c =
    let f = c.ranges in
    rw (pair_bounded, ← agreed (goal.at.returns-then-pair_even c).After-pair_even, c.if-pair_even.true) (rw (clean f.l, clean f.u) at c.entry_bounded.ensures)

pub returns : goal.returns
unfolding pair_bounded
returns c =
    let f = c.ranges in
    rw (pair_bounded, ← agreed (goal.at.returns c).After-pair_even, c.if-pair_even.false)
    (rw (clean f.l, clean f.lt, clean f.u, clean f.ut) at c.pair_meets.ensures)
