use mathlib.Core.Path.{◌≡◌, refl}
use Prim.Native.Nat.{ℕ, zero, suc, ◌+◌}
use native.Mathlib.Omega.{arith}
use Rattle.floats.specs.Fields.{significand_of}
use Rattle.floats.proofs.significand.Goals as goal

subnormal : (exponent digits : ℕ) → exponent ≡ 0 → digits ≡ significand_of exponent digits
unfolding significand_of
subnormal zero digits h = refl
subnormal (suc exponent) digits h = absurd (omega arith)

normal : (exponent digits : ℕ) → (exponent ≡ 0 → ⊥) → 8388608 + digits ≡ significand_of exponent digits
unfolding significand_of
normal zero digits h = absurd (h refl)
normal (suc exponent) digits h = refl

pub returns-then-exponent-eq0 : goal.returns-then-exponent-eq0
returns-then-exponent-eq0 c = let a = c.args in subnormal a.exponent a.digits c.if-exponent-eq0.true

pub returns-else-exponent-eq0 : goal.returns-else-exponent-eq0
returns-else-exponent-eq0 c = let a = c.args in normal a.exponent a.digits c.if-exponent-eq0.false
