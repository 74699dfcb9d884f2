use mathlib.Core.Path.{◌≡◌, refl}
use Prim.Native.Nat.{ℕ, ◌-◌}
use native.Mathlib.Omega.{arith}
use Rattle.floats.proofs.Fields.{places_by}
use Rattle.floats.proofs.places.Goals as goal

pub returns-then-exponent-lt126 : goal.returns-then-exponent-lt126
returns-then-exponent-lt126 c = places_by c.args.exponent (λ (z : ℕ). 24 ≡ z) (λ h. refl) (λ h. let k = c.if-exponent-lt126.true in absurd (omega arith))

pub returns-else-exponent-lt126 : goal.returns-else-exponent-lt126
returns-else-exponent-lt126 c =
    let e = c.args.exponent in
    places_by e (λ (z : ℕ). 150 - e ≡ z) (λ h. let k = c.if-exponent-lt126.false in absurd (omega arith)) (λ h. refl)
