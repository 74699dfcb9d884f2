-- By the test.
use mathlib.Core.Path.{◌∙◌}
use Rattle.integers.proofs.Machine.{clean}
use Rattle.integers.proofs.Extremes.{max_first, max_second}
use Rattle.integers.proofs.greater.Goals as goal

pub returns-then-x-y : goal.returns-then-x-y
returns-then-x-y c = let f = c.ranges in clean f.y ∙ max_second _ _ (rw (clean f.x, clean f.y) at c.if-x-y.true)

pub returns-else-x-y : goal.returns-else-x-y
returns-else-x-y c = let f = c.ranges in clean f.x ∙ max_first _ _ (rw (clean f.x, clean f.y) at c.if-x-y.false)
