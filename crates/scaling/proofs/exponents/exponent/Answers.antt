use mathlib.Core.Path.{◌≡◌, refl, sym, ◌∙◌}
use Prim.Native.Nat.{◌-◌}
use native.Mathlib.Omega.{arith}
use Rattle.integers.proofs.Machine.{clean}
use Rattle.scaling.specs.Scaling.{exponent}
use Rattle.scaling.proofs.Greatest.{greatest-none, greatest-found, greatest-passed}
use Rattle.scaling.proofs.exponents.exponent.Goals as goal

pub loop-k-init : goal.loop-k-init
unfolding exponent
loop-k-init c = refl

pub returns-then-stays_within : goal.returns-then-stays_within
returns-then-stays_within c =
    let f = clean c.ranges.u in
    sym ((rw f at c.loop-k.invariant)
    ∙ greatest-found _ (c.loop-k.k - 1) (omega arith) (sym (rw f at c.stays_within.ensures) ∙ c.if-stays_within.true))

pub loop-k-preserved : goal.loop-k-preserved
loop-k-preserved c =
    c.loop-k.invariant
    ∙ greatest-passed _ (c.loop-k.k - 1) (omega arith) (sym c.stays_within.ensures ∙ c.if-stays_within.false)

pub returns : goal.returns
returns c =
    let z : c.loop-k.k - 1 ≡ 0 = omega arith in
    sym ((rw (clean c.ranges.u, z) at c.loop-k.invariant) ∙ greatest-none _)
