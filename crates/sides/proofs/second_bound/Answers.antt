use mathlib.Core.Path.{◌∙◌}
use native.Mathlib.Omega.{arith}
use Rattle.integers.proofs.Machine.{clean, clean_result, fits_within}
use Rattle.sides.proofs.HalfSides.{twice_fits, second-within}
use Rattle.sides.proofs.second_bound.Goals as goal

pub overflow_mul-result : goal.overflow_mul-result
overflow_mul-result c = rw (clean_result c.product_sum-products, c.product_sum-products.ensures) (twice_fits c.requires.0)

pub overflow_add-result : goal.overflow_add-result
overflow_add-result c =
    rw (clean c.ranges.d, clean (overflow_mul-result c), clean_result c.product_sum-products, c.product_sum-products.ensures)
    (fits_within (second-within c.requires.0 c.requires.1) (omega arith))

pub returns : goal.returns
returns c =
    clean (overflow_add-result c)
    ∙ rw (clean c.ranges.d, clean (overflow_mul-result c), clean_result c.product_sum-products, c.product_sum-products.ensures)
