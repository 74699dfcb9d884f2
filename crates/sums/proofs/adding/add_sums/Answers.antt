use Rattle.integers.proofs.Machine.{clean}
use Rattle.sums.proofs.Fronts.{sums-filled, plus-front, ranged-low, ranged-high, ranged-from, ranged-to, ranged-limit, limit_fits, sum_fits}
use Rattle.sums.proofs.adding.add_sums.Goals as goal

pub add_numbers-requires : goal.add_numbers-requires
add_numbers-requires c = (ranged-low c.requires.1, ranged-low c.requires.0.1)

pub add_numbers-requires-2 : goal.add_numbers-requires-2
add_numbers-requires-2 c = (ranged-high c.requires.1, ranged-high c.requires.0.1)

pub add_numbers-requires-3 : goal.add_numbers-requires-3
add_numbers-requires-3 c = (ranged-from c.requires.1, ranged-from c.requires.0.1)

pub add_numbers-requires-4 : goal.add_numbers-requires-4
add_numbers-requires-4 c = (ranged-to c.requires.1, ranged-to c.requires.0.1)

pub overflow_add-sums : goal.overflow_add-sums
overflow_add-sums c =
    rw (clean (limit_fits c.requires.0.1), clean (limit_fits c.requires.1))
    (sum_fits (ranged-limit c.requires.0.1) (ranged-limit c.requires.1))

pub returns-clause-sums : goal.returns-clause-sums
returns-clause-sums c =
    let g = c.args.gains in
    let s = c.args.sums.now in
    sums-filled c.requires.0.1.rooms c.add_numbers.ensures c.add_numbers-2.ensures c.add_numbers-3.ensures c.add_numbers-4.ensures
    (rw (clean (limit_fits c.requires.0.1), clean (limit_fits c.requires.1))
    (clean (sum_fits (ranged-limit c.requires.0.1) (ranged-limit c.requires.1))))
    (plus-front s.order g.low.now g.high.now g.from.now g.to.now g.limit s.low.now s.high.now s.from.now s.to.now s.limit)
