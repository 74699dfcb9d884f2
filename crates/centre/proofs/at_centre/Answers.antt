use mathlib.Core.Path.{◌∙◌}
use native.Mathlib.Omega.{arith}
use Rattle.integers.proofs.Machine.{clean, fits_within, clean_element}
use Rattle.centre.specs.Centre.{at_centre}
use Rattle.centre.proofs.Magnitudes.{centre-entries, twice_fits, limit_fits, centre-within}
use Rattle.centre.proofs.at_centre.Goals as goal

pub least_value-least-requires : goal.least_value-least-requires
unfolding at_centre
least_value-least-requires c = centre-entries c.args.problem.terms

pub overflow_mul-result : goal.overflow_mul-result
overflow_mul-result c =
    let l = c.least_terms-linear in
    rw (clean_element l.result l.type_inv, l.ensures) (twice_fits c.args.problem.terms)

pub overflow_sub-result : goal.overflow_sub-result
overflow_sub-result c =
    let p = c.args.problem in
    let l = c.least_terms-linear in
    rw (clean c.ranges.limit, clean (overflow_mul-result c), clean_element l.result l.type_inv, l.ensures)
    (limit_fits p.bounds.checked p.terms c.requires)

pub overflow_sub-result-2 : goal.overflow_sub-result-2
unfolding at_centre
overflow_sub-result-2 c =
    let p = c.args.problem in
    let l = c.least_terms-linear in
    let v = c.least_value-least in
    rw (clean (overflow_sub-result c), clean c.ranges.limit, clean (overflow_mul-result c))
    (rw (clean_element l.result l.type_inv, l.ensures, clean_element v.result v.type_inv, v.ensures)
    (fits_within (centre-within p.bounds.checked p.terms c.requires) (omega arith)))

pub returns : goal.returns
unfolding at_centre
returns c =
    let l = c.least_terms-linear in
    let v = c.least_value-least in
    clean (overflow_sub-result-2 c)
    ∙ rw (clean (overflow_sub-result c), clean c.ranges.limit, clean (overflow_mul-result c))
    (rw (clean_element l.result l.type_inv, l.ensures, clean_element v.result v.type_inv, v.ensures))
