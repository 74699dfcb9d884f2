-- One less than the upper number, or the middle: between the two either way.
use mathlib.Core.List.{[], ◌∷◌}
use native.Mathlib.Omega.{arith}
use lib.IntN.{ℤ, pos, ◌+ℤ◌}
use lib.Signed.{◌<ℤ◌}
use Rattle.integers.specs.Division.{floor_div}
use Rattle.integers.proofs.Division.{floor_law}
use Rattle.integers.proofs.Solver.{◌&◌, none, order, solver}
use Rattle.integers.proofs.Machine.{clean, fits_within, within-+, clean_element}
use Rattle.stiffness.specs.Descent.{Inside}
use Rattle.stiffness.proofs.least_bound.next.Goals as goal

middle : {a b : ℤ} → (a +ℤ pos 1) <ℤ b → Inside a b (floor_div (a +ℤ b) (pos 2))
middle {a} {b} h =
    let f = floor_law (a +ℤ b) (pos 2) (order (a ∷ []) none (search solver depth 40 fits 20000) (omega arith)) in
    let q : ℤ = floor_div (a +ℤ b) (pos 2) in
    record {
      low = order (a ∷ b ∷ q ∷ []) (f.high & h) (search solver depth 40 fits 20000) (omega arith);
      high = order (a ∷ b ∷ q ∷ []) (f.low & h) (search solver depth 40 fits 20000) (omega arith);
    }

pub overflow_add-below : goal.overflow_add-below
overflow_add-below c = rw (clean c.ranges.below, clean c.ranges.v) (fits_within (within-+ c.requires.0 c.requires.1) (omega arith))

pub returns : goal.returns
returns c =
    let q = c.floor_div in
    rw (clean_element q.result q.type_inv, q.ensures, clean (overflow_add-below c.before), clean c.ranges.below, clean c.ranges.v)
    (middle c.requires.2.high)
