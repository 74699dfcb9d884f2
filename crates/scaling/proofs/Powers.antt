-- Powers of two and four, and numbers times them.
use mathlib.Core.Path.{◌≡◌, refl, sym, ap, ap₂, ◌∙◌}
use Prim.Native.Nat.{ℕ, zero, suc, ◌+◌, ◌*◌, ◌^◌, ◌≤◌}
use native.Mathlib.Nat.{pow-suc}
use native.Mathlib.Omega.{arith}
use lib.IntN.{ℤ, pos, negsuc, nat_abs, ◌+ℤ◌, ◌*ℤ◌}
use lib.Signed.{◌≤ℤ◌}
use lib.Pow.{pow_mono, pow-add}
use Rattle.integers.specs.Numbers.{Within}
use Rattle.integers.proofs.Machine.{within-*}
use Rattle.integers.proofs.Parts.{≤_out}
use Rattle.tables.specs.Ranges.{entry_range}
use Rattle.scaling.specs.Scaling.{greatest_exponent}
use Rattle.scaling.specs.Scratch.{Exponent}

pub four-power : (k : ℕ) → 4 ^ k ≡ 2 ^ (2 * k)
four-power zero = refl
four-power (suc k) =
    let e : 2 * suc k ≡ 2 * k + 2 = omega arith in
    pow-suc 4 k ∙ ap (λ (x : ℕ). x * 4) (four-power k) ∙ sym (pow-add 2 (2 * k) 2) ∙ sym (ap (λ (x : ℕ). 2 ^ x) e)

-- an entry times a power that scales it
pub times_power : (k : ℕ) {u : ℤ} → k ≤ 2 * greatest_exponent → Within entry_range u → Within (2 ^ 40) (pos (2 ^ k) *ℤ u)
times_power k {u} h w = within-* {m = 2 ^ 20} {k = entry_range} {x = pos (2 ^ k)} {y = u} (record { size = pow_mono h }) w

-- the sum of two numbers of a scale
exponent_is : (a : ℤ) → pos 0 ≤ℤ a → a ≡ pos (nat_abs a)
exponent_is (pos n) h = refl
exponent_is (negsuc n) h = absurd (omega (arith, ≤_out h))

pub exponents-sum : {a b : ℤ} → Exponent a → Exponent b → a +ℤ b ≡ pos (nat_abs a + nat_abs b)
exponents-sum {a} {b} e f = ap₂ (λ (x y : ℤ). x +ℤ y) (exponent_is a e.low) (exponent_is b f.low)
