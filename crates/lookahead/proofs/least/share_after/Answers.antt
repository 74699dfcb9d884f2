-- Two sums.
use native.Mathlib.Omega.{arith}
use Rattle.integers.proofs.Machine.{within_more}
use Rattle.lookahead.specs.LeastSums.{share_after}
use Rattle.lookahead.proofs.Sizes.{row_small}
use Rattle.lookahead.proofs.LeastSums.{sum_fits, sum_is, share_is}
use Rattle.lookahead.proofs.least.share_after.Goals as goal

pub overflow_add-result : goal.overflow_add-result
unfolding share_after
overflow_add-result c =
    let p = c.requires in
    rw c.row_entry.ensures (sum_fits p.5.plus (within_more (omega arith) (row_small p.0 p.1 p.3 p.4)))

pub overflow_add-result-2 : goal.overflow_add-result-2
unfolding share_after
overflow_add-result-2 c =
    let p = c.requires in
    rw c.row_entry-2.ensures (sum_fits p.5.minus (within_more (omega arith) (row_small p.0 p.2 p.3 p.4)))

pub returns : goal.returns
unfolding share_after
returns c =
    let p = c.requires in
    share_is (rw c.row_entry.ensures (sum_is p.5.plus (within_more (omega arith) (row_small p.0 p.1 p.3 p.4))))
    (rw c.row_entry-2.ensures (sum_is p.5.minus (within_more (omega arith) (row_small p.0 p.2 p.3 p.4))))
