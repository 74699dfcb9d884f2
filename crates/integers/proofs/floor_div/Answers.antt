use mathlib.Core.Path.{◌≡◌, ◌∙◌}
use Prim.Native.Nat.{ℕ, ◌/◌, ◌^◌, ◌<◌}
use native.Mathlib.Nat.{div-le_self}
use native.Mathlib.Omega.{arith}
use lib.IntN.{pos, nat_abs}
use lib.Signed.{mag, quot_z}
use mir.Syntax.{w64}
use mir.Val.{to_z, of_z}
use Rattle.integers.proofs.Division.{flip_is, quotient_is, floor_of-negative, floor_of-nonneg}
use Rattle.integers.proofs.Machine.{clean, clean_result, lt_yes, lt_no, fits_literal, divisor_bits}
use Rattle.integers.proofs.floor_div.Lts as lts
use Rattle.integers.proofs.floor_div.Tie as tie
use Rattle.integers.proofs.floor_div.Reads as reads
use Rattle.integers.proofs.floor_div.Goals as goal

abbrev After-magnitude : Type 0
After-magnitude = lts.After-magnitude tie.the-claims reads.Pre reads.Post

abbrev Start : Type 0
Start = lts.Start tie.the-claims reads.Pre reads.Post

abbrev quotient : Start → ℕ
quotient s = mag s.args.a / nat_abs s.args.d

small : (s : Start) → quotient s < 2 ^ 63
small s = let f = s.ranges.a.sfits in omega (arith, div-le_self (mag s.args.a) (nat_abs s.args.d))

divided : (c : After-magnitude) → quot_z (to_z w64 (of_z w64 c.magnitude.result)) (to_z w64 (of_z w64 c.args.d)) ≡ pos (quotient c.before)
divided c =
    rw (clean_result c.magnitude, c.magnitude.ensures, clean c.ranges.a, clean c.ranges.d) (quotient_is (mag c.args.a) c.requires)

pub nonzero_div-quotient : goal.nonzero_div-quotient
nonzero_div-quotient c = (divisor_bits c.requires, rw (divided c) (record { sfits = small c.before }))

pub overflow_sub-result : goal.overflow_sub-result
overflow_sub-result c = rw (clean (nonzero_div-quotient c.before).1, divided c.before, flip_is) (record { sfits = small c.before.before })

pub returns-then-a-lt0 : goal.returns-then-a-lt0
returns-then-a-lt0 c =
    clean (overflow_sub-result c)
    ∙ rw (clean (nonzero_div-quotient c.before).1, divided c.before, flip_is)
    (floor_of-negative c.args.d (lt_yes c.ranges.a (fits_literal tt) c.if-a-lt0.true))

pub returns-else-a-lt0 : goal.returns-else-a-lt0
returns-else-a-lt0 c =
    clean (nonzero_div-quotient c.before).1 ∙ divided c.before ∙ floor_of-nonneg c.args.d (lt_no c.ranges.a (fits_literal tt) c.if-a-lt0.false)
