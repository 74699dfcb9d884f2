-- The least of three.
use native.Mathlib.Omega.{arith}
use Rattle.integers.proofs.Machine.{clean, fits_within, clean_element}
use Rattle.lookahead.specs.LeastSums.{least_shares, least_one}
use Rattle.lookahead.proofs.LeastSums.{first_small}
use Rattle.lookahead.proofs.least.ShareShares.least.Goals as goal

pub returns : goal.returns
unfolding least_shares least_one
returns c =
    let p = first_small c.requires in
    rw (
      clean_element c.least_of.result c.least_of.type_inv,
      c.least_of.ensures,
      clean c.ranges.sum,
      clean (fits_within p.plus (omega arith)),
      clean (fits_within p.minus (omega arith)),
    )
