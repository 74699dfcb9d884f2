use mathlib.Core.Path.{ap₂, ◌∙◌}
use native.Mathlib.Omega.{arith}
use native.Mathlib.Numerals.{add-one}
use lib.IntN.{◌+ℤ◌}
use Rattle.integers.proofs.Machine.{clean, clean_element}
use Rattle.tables.specs.Matrix.{nth}
use Rattle.sums.proofs.InPlace.{replaced_more, read_next}
use Rattle.sums.proofs.Fronts.{sum_fits}
use Rattle.sums.proofs.adding.add_numbers.Goals as goal

pub overflow_add-x : goal.overflow_add-x
overflow_add-x c =
    let p = c.requires in
    let sum = ap₂ ◌+ℤ◌ (read_next c.loop-k.x (omega arith) c.loop-k.invariant)
    (clean_element (nth c.args.g.now c.loop-k.k) (omega arith)) in
    rw sum (sum_fits (p.1.small _ c.loop-k-test.true) (p.0.small _ c.loop-k-test.true))

pub loop-k-preserved : goal.loop-k-preserved
loop-k-preserved c =
    let sum = ap₂ ◌+ℤ◌ (read_next c.loop-k.x (omega arith) c.loop-k.invariant)
    (clean_element (nth c.args.g.now c.loop-k.k) (omega arith)) in
    rw add-one (replaced_more (omega arith) (clean (overflow_add-x c) ∙ sum) c.loop-k.invariant)
