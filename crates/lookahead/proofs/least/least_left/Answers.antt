-- The shares of the entries give the least sum.
use Rattle.integers.proofs.Machine.{clean, clean_element}
use Rattle.lookahead.proofs.LeastSums.{shares_least, open_last}
use Rattle.lookahead.proofs.least.least_left.Goals as goal

pub least-requires : goal.least-requires
least-requires g c = rw (c.starting-shares.ensures, clean c.ranges.sum) (open_last c.requires.0 c.requires.1 _ c.requires.2)

pub returns : goal.returns
returns g c =
    rw (clean_element c.least.result c.least.type_inv, c.least.ensures, c.starting-shares.ensures, clean c.ranges.sum)
    (shares_least _ _ _ _ _ _ _)
