use mathlib.Core.Path.{◌≡◌, ◌∙◌}
use Prim.Native.Nat.{ℕ, ◌+◌, ◌≤◌}
use native.Mathlib.Omega.{arith}
use lib.IntN.{pos, nat_abs, ◌+ℤ◌}
use mir.Syntax.{w64}
use mir.Val.{to_z, of_z}
use mir.Val.{SFits}
use Rattle.integers.proofs.Machine.{clean, clean_result, fits, fits_within, as_usize}
use Rattle.integers.proofs.Parts.{pos_nonneg}
use Rattle.scaling.proofs.Powers.{times_power, exponents-sum}
use Rattle.scaling.proofs.rescaling.scaled_entry.Lts as lts
use Rattle.scaling.proofs.rescaling.scaled_entry.Tie as tie
use Rattle.scaling.proofs.rescaling.scaled_entry.Reads as reads
use Rattle.scaling.proofs.rescaling.scaled_entry.Goals as goal

abbrev Start : Type 0
Start = lts.Start tie.the-claims reads.Pre reads.Post

-- the two numbers, added
module _ (s : Start) where
  abbrev k : ℕ
  k = nat_abs s.args.a + nat_abs s.args.b

  small : k ≤ 20
  small = omega (arith, s.requires.0.high, s.requires.1.high)

  added : to_z w64 (of_z w64 s.args.a) +ℤ to_z w64 (of_z w64 s.args.b) ≡ pos k
  added = rw (clean s.ranges.a, clean s.ranges.b) (exponents-sum s.requires.0 s.requires.1)

  fitting : SFits w64 (pos k)
  fitting = fits (omega (arith, small))

pub overflow_mul-result : goal.overflow_mul-result
overflow_mul-result c =
    rw (clean_result c.power, c.power.ensures, added c.before, clean (fitting c.before), clean c.ranges.v)
    (fits_within (times_power (k c.before) (small c.before) c.requires.2) (omega arith))

pub overflow_add-a : goal.overflow_add-a
overflow_add-a c = rw (added c) (fitting c)

pub overflow_cast-a : goal.overflow_cast-a
overflow_cast-a c = rw (added c) (as_usize (fitting c) (pos_nonneg (k c)))

pub power-requires : goal.power-requires
power-requires c = rw (added c, clean (fitting c)) (small c)

pub returns : goal.returns
returns c =
    clean (overflow_mul-result c)
    ∙ rw (clean_result c.power, c.power.ensures, added c.before, clean (fitting c.before), clean c.ranges.v)
