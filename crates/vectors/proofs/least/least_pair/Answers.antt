use mathlib.Core.Path.{◌∙◌}
use Rattle.integers.proofs.Machine.{clean, clean_element, clean_result}
use Rattle.tables.specs.Matrix.{nth}
use Rattle.vectors.specs.LeastShares.{least_pair}
use Rattle.tables.proofs.CheckedTables.{low-within, high-within}
use Rattle.vectors.proofs.Values.{product_within, product_fits}
use Rattle.vectors.proofs.least.least_pair.Goals as goal

pub overflow_mul-x : goal.overflow_mul-x
overflow_mul-x c =
    let p = c.requires in
    rw (clean_element (nth c.args.x.now c.args.i) c.least_term-arg-1.given, clean_element _ c.least_term-arg-2-1.given)
    (product_fits c.args.bounds.checked p.0 p.1 p.2)

pub least_term-requires : goal.least_term-requires
unfolding least_pair
least_term-requires c =
    let p = c.requires in
    let t = c.args.bounds.checked in
    rw (clean_element c.low_at-l.result c.low_at-l.type_inv, clean_element c.high_at-u.result c.high_at-u.type_inv)
    (rw (c.low_at-l.ensures, c.high_at-u.ensures, clean (overflow_mul-x c))
    (rw (clean_element (nth c.args.x.now c.args.i) c.least_term-arg-1.given, clean_element _ c.least_term-arg-2-1.given)
    (low-within t p.1 p.2, high-within t p.1 p.2, product_within t p.0 p.1 p.2)))

pub returns : goal.returns
unfolding least_pair
returns c =
    clean_result c.least_term ∙ c.least_term.ensures
    ∙ rw (clean_element c.low_at-l.result c.low_at-l.type_inv, clean_element c.high_at-u.result c.high_at-u.type_inv)
    (rw (c.low_at-l.ensures, c.high_at-u.ensures, clean (overflow_mul-x c.before))
    (rw (clean_element (nth c.args.x.now c.args.i) c.least_term-arg-1.given, clean_element _ c.least_term-arg-2-1.given)))
