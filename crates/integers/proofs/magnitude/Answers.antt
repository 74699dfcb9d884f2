use mathlib.Core.Path.{◌∙◌}
use Rattle.integers.proofs.Division.{flip_is, mag-of-negative, mag-of-nonneg}
use Rattle.integers.proofs.Machine.{clean, lt_yes, lt_no, fits_literal, fits_flip}
use Rattle.integers.proofs.magnitude.Goals as goal

pub overflow_sub-result : goal.overflow_sub-result
overflow_sub-result c = simp (clean, c.ranges.a, flip_is) (fits_flip c.ranges.a)

pub returns-then-a-lt0 : goal.returns-then-a-lt0
returns-then-a-lt0 c =
    let f = c.ranges.a in
    clean (overflow_sub-result c) ∙ simp (clean, f, flip_is) (mag-of-negative (lt_yes f (fits_literal tt) c.if-a-lt0.true))

pub returns-else-a-lt0 : goal.returns-else-a-lt0
returns-else-a-lt0 c = let f = c.ranges.a in clean f ∙ mag-of-nonneg (lt_no f (fits_literal tt) c.if-a-lt0.false)
