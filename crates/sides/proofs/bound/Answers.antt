use mathlib.Core.Path.{◌∙◌}
use native.Mathlib.Omega.{arith}
use Rattle.integers.proofs.Machine.{clean, clean_result, fits_within}
use Rattle.sides.specs.Sides.{bound}
use Rattle.sides.proofs.HalfSides.{square_terms, squares-within, bound-within}
use Rattle.sides.proofs.bound.Goals as goal

pub overflow_add-result : goal.overflow_add-result
unfolding bound
overflow_add-result c =
    let p = c.product_sum-squares in
    rw (clean_result c.ceil_div, c.ceil_div.ensures, clean c.ranges.d, clean c.ranges.t, clean_result p, p.ensures)
    (fits_within (bound-within c.requires.0 c.requires.1) (omega arith))

pub product_sum-squares-requires : goal.product_sum-squares-requires
unfolding bound
product_sum-squares-requires c = square_terms c.requires.0

pub ceil_div-requires : goal.ceil_div-requires
unfolding bound
ceil_div-requires c =
    rw (clean c.ranges.t, clean_result c.product_sum-squares, c.product_sum-squares.ensures)
    (squares-within c.requires.0, c.requires.0.step)

pub returns : goal.returns
unfolding bound
returns c =
    let p = c.product_sum-squares in
    clean (overflow_add-result c)
    ∙ rw (clean_result c.ceil_div, c.ceil_div.ensures, clean c.ranges.d, clean c.ranges.t, clean_result p, p.ensures)
