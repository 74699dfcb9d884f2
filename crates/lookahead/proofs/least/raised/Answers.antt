-- Two sums.
use Rattle.lookahead.specs.LeastSums.{raised}
use Rattle.lookahead.proofs.LeastSums.{sum_fits, sum_is, share_is}
use Rattle.lookahead.proofs.least.raised.Goals as goal

pub overflow_add-result : goal.overflow_add-result
unfolding raised
overflow_add-result c = let p = c.requires in sum_fits p.1.plus p.0

pub overflow_add-result-2 : goal.overflow_add-result-2
unfolding raised
overflow_add-result-2 c = let p = c.requires in sum_fits p.1.minus p.0

pub returns : goal.returns
unfolding raised
returns c = let p = c.requires in share_is (sum_is p.1.plus p.0) (sum_is p.1.minus p.0)
