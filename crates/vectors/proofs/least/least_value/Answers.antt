use mathlib.Core.Path.{◌≡◌, sym, ◌∙◌}
use native.Mathlib.Omega.{arith}
use native.Mathlib.Numerals.{add-one}
use Rattle.integers.proofs.Machine.{clean, clean_element}
use Rattle.integers.proofs.Sums.{sum_zero, sum_suc}
use Rattle.vectors.proofs.Values.{sum_fits, shares_add}
use Rattle.vectors.proofs.least.least_value.Goals as goal

pub overflow_add-s : goal.overflow_add-s
overflow_add-s c =
    rw (clean_element c.least_share-s.result c.least_share-s.type_inv, c.least_share-s.ensures, c.loop-i.invariant)
    (sum_fits c.args.bounds.checked c.requires c.loop-i-test.true)

pub loop-i-init : goal.loop-i-init
loop-i-init c = sym (sum_zero _)

pub loop-i-preserved : goal.loop-i-preserved
loop-i-preserved c =
    let l = c.loop-i in
    clean (overflow_add-s c)
    ∙ rw (clean_element c.least_share-s.result c.least_share-s.type_inv, c.least_share-s.ensures, l.invariant, add-one)
    (sym (sum_suc l.i _))

pub returns : goal.returns
returns c =
    let e : c.loop-i.i ≡ c.args.bounds.order = omega arith in
    (rw e at c.loop-i.invariant) ∙ shares_add _ _ _ _ c.args.bounds.checked.bounds
