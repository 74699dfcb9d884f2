use native.Mathlib.Omega.{arith}
use Rattle.std.proofs.lemmas.Int.{ints}
use Rattle.residual.proofs.Rows.{radius-above, radius-below}
use Rattle.residual.proofs.row_test.radius.Goals as goal

pub returns-then-below-b : goal.returns-then-below-b
returns-then-below-b c = let w = c.requires.1 in rw (← radius-above c.requires.0 (grind (arith, ints))) (omega (arith, ints))

pub returns-else-below-b : goal.returns-else-below-b
returns-else-below-b c = let w = c.requires.1 in rw (← radius-below c.requires.0 (grind (arith, ints))) (omega (arith, ints))
