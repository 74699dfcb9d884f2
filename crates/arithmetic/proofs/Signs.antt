-- |x| by the sign of x.
use mathlib.Core.Path.{◌≡◌, refl}
use Prim.Native.Nat.{suc}
use native.Mathlib.Omega.{arith}
use lib.IntN.{ℤ, pos, negsuc, ◌-ℤ◌, +ℤ_idl}
use lib.Signed.{◌≤ℤ◌, ◌<ℤ◌}
use Rattle.integers.specs.Numbers.{abs_ℤ}
use Rattle.integers.proofs.Parts.{<_out}

pub abs-of-negative : (x : ℤ) → x <ℤ pos 0 → pos 0 -ℤ x ≡ abs_ℤ x
unfolding abs_ℤ
abs-of-negative (pos n) h = absurd (omega (arith, <_out h))
abs-of-negative (negsuc n) h = +ℤ_idl (pos (suc n))

pub abs-of-nonneg : (x : ℤ) → pos 0 ≤ℤ x → x ≡ abs_ℤ x
unfolding abs_ℤ
abs-of-nonneg (pos n) h = refl
abs-of-nonneg (negsuc n) h = absurd h.le
