use Prim.Native.Nat.{◌*◌}
use native.Mathlib.Omega.{arith}
use Rattle.integers.proofs.Machine.{clean, clean_result, fits_within}
use Rattle.scaling.specs.Scaling.{stays_within}
use Rattle.scaling.proofs.Powers.{four-power, times_power}
use Rattle.scaling.proofs.exponents.stays_within.Goals as goal

pub overflow_mul-result : goal.overflow_mul-result
overflow_mul-result c =
    rw (clean_result c.power, c.power.ensures, clean c.ranges.u)
    (fits_within (times_power (2 * c.args.k) (omega (arith, c.requires.1)) c.requires.0) (omega arith))

pub returns : goal.returns
unfolding stays_within
returns c = rw (clean (overflow_mul-result c), clean_result c.power, c.power.ensures, clean c.ranges.u, ← four-power c.args.k)
