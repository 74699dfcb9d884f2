use mathlib.Core.Path.{◌≡◌, sym, ◌∙◌}
use native.Mathlib.Omega.{arith}
use native.Mathlib.Numerals.{add-one}
use lib.IntN.{◌*ℤ◌}
use mir.Syntax.{w64}
use mir.Val.{to_z, of_z}
use Rattle.integers.specs.Numbers.{min_ℤ}
use Rattle.integers.proofs.Machine.{clean, clean_element}
use Rattle.integers.proofs.Sums.{sum_zero, sum_suc}
use Rattle.tables.specs.Matrix.{nth}
use Rattle.centre.proofs.Magnitudes.{low_term_fits, high_term_fits, least_fits}
use Rattle.centre.proofs.least_terms.Goals as goal
use Rattle.centre.proofs.least_terms.Goals.{After-smaller-least}

pub loop-k-init : goal.loop-k-init
loop-k-init c = sym (sum_zero _)

pub overflow_mul-from : goal.overflow_mul-from
overflow_mul-from c =
    let p = c.args.problem in
    let k = c.loop-k.k in
    rw (clean_element (nth p.from.now k) (omega arith), clean_element (nth p.centre.now k) (omega arith))
    (low_term_fits p.terms c.loop-k-test.true)

pub overflow_mul-to : goal.overflow_mul-to
overflow_mul-to c =
    let p = c.args.problem in
    let k = c.loop-k.k in
    rw (clean_element (nth p.to.now k) (omega arith), clean_element (nth p.centre.now k) (omega arith))
    (high_term_fits p.terms c.loop-k-test.true)

-- the next term
next : (c : After-smaller-least) →
    let p = c.args.problem in
    let k = c.loop-k.k in
    to_z w64 (of_z w64 c.smaller-least.result) ≡ min_ℤ (nth p.from.now k *ℤ nth p.centre.now k) (nth p.to.now k *ℤ nth p.centre.now k)
next c =
    let p = c.args.problem in
    let k = c.loop-k.k in
    let h = c.loop-k-test.true in
    clean_element c.smaller-least.result c.smaller-least.type_inv ∙ c.smaller-least.ensures
    ∙ rw (clean_element (nth p.from.now k) (omega arith), clean_element (nth p.to.now k) (omega arith))
    (rw (clean_element (nth p.centre.now k) (omega arith), clean (low_term_fits p.terms h), clean (high_term_fits p.terms h)))

pub overflow_add-least : goal.overflow_add-least
overflow_add-least c = rw (next c, c.loop-k.invariant) (least_fits c.args.problem.terms c.loop-k-test.true)

pub loop-k-preserved : goal.loop-k-preserved
loop-k-preserved c =
    let l = c.loop-k in
    clean (overflow_add-least c) ∙ rw (next c, l.invariant, add-one) (sym (sum_suc l.k _))
