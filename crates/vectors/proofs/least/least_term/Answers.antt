use mathlib.Core.Path.{◌∙◌}
use Rattle.integers.proofs.Machine.{clean}
use Rattle.vectors.proofs.Values.{term_low, term_high, share_fits}
use Rattle.vectors.proofs.least.least_term.Goals as goal

pub overflow_mul-result : goal.overflow_mul-result
overflow_mul-result c = rw (clean c.ranges.low, clean c.ranges.p) (share_fits c.requires.0 c.requires.2)

pub overflow_mul-result-else-p-gt0 : goal.overflow_mul-result-else-p-gt0
overflow_mul-result-else-p-gt0 c = rw (clean c.ranges.high, clean c.ranges.p) (share_fits c.requires.1 c.requires.2)

pub returns-then-p-gt0 : goal.returns-then-p-gt0
returns-then-p-gt0 c =
    clean (overflow_mul-result c) ∙ rw (clean c.ranges.low, clean c.ranges.p) (term_low _ _ _ (rw (clean c.ranges.p) at c.if-p-gt0.true))

pub returns-else-p-gt0 : goal.returns-else-p-gt0
returns-else-p-gt0 c =
    clean (overflow_mul-result-else-p-gt0 c) ∙ rw (clean c.ranges.high, clean c.ranges.p) (term_high _ _ _ (rw (clean c.ranges.p) at c.if-p-gt0.false))
