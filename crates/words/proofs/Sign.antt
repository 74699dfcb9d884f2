-- The widths of the numbers, 4 or 8 bytes, and how often their values go into those of 64 bits.
use mathlib.Core.Path.{◌≡◌, refl}
use mathlib.Core.Bool.{true, false, cond}
use Prim.Native.Nat.{ℕ, ◌+◌, ◌-◌, ◌*◌, ◌^◌, ◌≤◌}
use native.Mathlib.Omega.{arith}
use lib.Dec.{eqb}
use mir.Syntax.{Width, w32, w64}
use mir.Val.{bits, hbits, bytes}
use Rattle.words.specs.Numbers.{width_of}

-- a width of at most 64 bits, whose values go `turns` times and once more into the 64 bits'
pub record Narrow (w : Width) : Type 0 where
  pub few : bytes w ≤ 8
  pub halves : 2 ^ bits w ≡ 2 * 2 ^ hbits w
  pub turns : ℕ
  pub whole : 2 ^ 64 ≡ 2 ^ bits w + 2 ^ bits w * turns

pub narrow-of : (size : ℕ) → Narrow (width_of size)
narrow-of size =
    elim (eqb size 4) as (λ b. Narrow (cond b w32 w64)) [
      | true ↦ record { few = omega arith; halves = refl; turns = 2 ^ 32 - 1; whole = refl }
      | false ↦ record { few = omega arith; halves = refl; turns = 0; whole = refl }
    ]
