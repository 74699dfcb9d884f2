use mathlib.Core.Path.{sym, ◌∙◌}
use Rattle.integers.proofs.Machine.{clean, clean_element, fits_literal, same_bits}
use Rattle.tables.proofs.CheckedTables.{low-within}
use Rattle.vectors.specs.LeastShares.{least_share}
use Rattle.vectors.proofs.Values.{share_none, product_within, product_fits, share_fits, twice_fits, share_adds}
use Rattle.vectors.proofs.least.least_share.Goals as goal

pub overflow_mul-result : goal.overflow_mul-result
overflow_mul-result c =
    let p = c.requires in
    rw (clean_element c.least_row-row.result c.least_row-row.type_inv, c.least_row-row.ensures) (twice_fits c.args.bounds.checked p.0 p.1)

pub overflow_mul-result-2 : goal.overflow_mul-result-2
overflow_mul-result-2 c =
    let p = c.requires in
    rw (clean_element _ c.result-1.given) (product_fits c.args.bounds.checked p.0 p.1 p.1)

pub overflow_mul-result-3 : goal.overflow_mul-result-3
overflow_mul-result-3 c =
    let p = c.requires in
    rw (clean_element c.low_at-l.result c.low_at-l.type_inv, c.low_at-l.ensures)
    (rw (clean (overflow_mul-result-2 c), clean_element _ c.result-1.given)
    (share_fits (low-within c.args.bounds.checked p.1 p.1) (product_within c.args.bounds.checked p.0 p.1 p.1)))

pub overflow_add-result : goal.overflow_add-result
overflow_add-result c =
    let p = c.requires in
    rw (clean (overflow_mul-result c.before.before), clean (overflow_mul-result-3 c))
    (rw (clean_element c.low_at-l.result c.low_at-l.type_inv, c.low_at-l.ensures, clean (overflow_mul-result-2 c))
    (rw (clean_element c.least_row-row.result c.least_row-row.type_inv, c.least_row-row.ensures, clean_element _ c.result-1.given)
    (share_adds c.args.bounds.checked p.0 p.1)))

pub returns-then-x-i-eq0 : goal.returns-then-x-i-eq0
unfolding least_share
returns-then-x-i-eq0 c = sym (share_none _ _ _ _ _ (same_bits (record { sfits = c.t8-1.given }) (fits_literal tt) c.if-x-i-eq0.true))

pub returns : goal.returns
unfolding least_share
returns c =
    clean (overflow_add-result c)
    ∙ rw (clean (overflow_mul-result c.before.before), clean (overflow_mul-result-3 c))
    (rw (clean_element c.low_at-l.result c.low_at-l.type_inv, c.low_at-l.ensures, clean (overflow_mul-result-2 c))
    (rw (clean_element c.least_row-row.result c.least_row-row.type_inv, c.least_row-row.ensures, clean_element _ c.result-1.given)))
