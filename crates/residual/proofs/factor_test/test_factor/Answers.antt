-- With no other buffers.
use Rattle.std.proofs.Math.Bool.{and-true}
use Rattle.integers.proofs.Machine.{clean}
use Rattle.residual.proofs.factor_test.test_factor.Goals as goal

pub returns : goal.returns
returns g c = rw (clean c.ranges.n, and-true) at c.test_factor_among.ensures
