use mathlib.Core.Path.{sym, ◌∙◌}
use native.Mathlib.Omega.{arith}
use native.Mathlib.Numerals.{add-one}
use Rattle.integers.proofs.Machine.{clean, clean_element}
use Rattle.integers.proofs.Sums.{sum_zero, sum_suc}
use Rattle.vectors.specs.LeastShares.{least_row}
use Rattle.vectors.proofs.Values.{row_fits}
use Rattle.vectors.proofs.least.least_row.Goals as goal

pub overflow_add-s : goal.overflow_add-s
overflow_add-s c =
    let p = c.requires in
    rw (clean_element c.least_pair-s.result c.least_pair-s.type_inv, c.least_pair-s.ensures, c.loop-k.invariant)
    (row_fits c.args.bounds.checked p.0 p.1 (omega arith))

pub loop-k-init : goal.loop-k-init
unfolding least_row
loop-k-init c = sym (sum_zero _)

pub loop-k-preserved : goal.loop-k-preserved
unfolding least_row
loop-k-preserved c =
    let l = c.loop-k in
    clean (overflow_add-s c)
    ∙ rw (clean_element c.least_pair-s.result c.least_pair-s.type_inv, c.least_pair-s.ensures, l.invariant, add-one) (sym (sum_suc l.k _))
