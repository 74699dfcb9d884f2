-- With no other buffers.
use Rattle.std.proofs.Math.Bool.{and-true}
use Rattle.integers.proofs.Machine.{clean}
use Rattle.rides.proofs.reading.read_sums.Goals as goal

pub returns : goal.returns
returns g c = rw (clean c.ranges.n, clean c.ranges.running, clean c.ranges.allowance, and-true) at c.read_sums_among.ensures
