-- The sums of the entry and of those after it.
use Rattle.integers.proofs.Machine.{clean, clean_element}
use Rattle.lookahead.specs.LeastSums.{least_choice}
use Rattle.lookahead.proofs.LeastSums.{sum_fits, sum_is}
use Rattle.lookahead.proofs.least.least_choice.Goals as goal

pub overflow_add-a : goal.overflow_add-a
unfolding least_choice
overflow_add-a c = let p = c.requires in sum_fits p.0.plus p.1

pub overflow_add-a-2 : goal.overflow_add-a-2
unfolding least_choice
overflow_add-a-2 c = let p = c.requires in sum_fits p.0.minus p.2

pub returns : goal.returns
unfolding least_choice
returns c =
    let p = c.requires in
    rw (
      clean_element c.least_of.result c.least_of.type_inv,
      c.least_of.ensures,
      clean c.ranges.zero,
      sum_is p.0.plus p.1,
      sum_is p.0.minus p.2,
    )
