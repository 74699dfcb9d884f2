-- The smaller of the first two, and of it and the third.
use mathlib.Core.Path.{refl}
use Rattle.integers.proofs.Machine.{clean, clean_element}
use Rattle.lookahead.specs.LeastSums.{least_of}
use Rattle.lookahead.proofs.least.least_of.Goals as goal

pub returns : goal.returns
unfolding least_of
returns c =
    let f = c.ranges in
    rw (
      clean_element c.smaller-2.result c.smaller-2.type_inv,
      c.smaller-2.ensures,
      clean_element c.smaller.result c.smaller.type_inv,
      c.smaller.ensures,
      clean f.x,
      clean f.y,
      clean f.z,
    ) refl
