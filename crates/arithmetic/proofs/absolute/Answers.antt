-- By the test.
use native.Mathlib.Omega.{arith}
use lib.IntN.{pos}
use lib.Signed.{◌≤ℤ◌, ◌<ℤ◌}
use Rattle.std.proofs.lemmas.Int.{ints}
use Rattle.arithmetic.proofs.Signs.{abs-of-negative, abs-of-nonneg}
use Rattle.arithmetic.proofs.absolute.Goals as goal

pub returns-then-x-lt0 : goal.returns-then-x-lt0
returns-then-x-lt0 c = let h : c.args.x <ℤ pos 0 = grind (arith, ints) in rw (← abs-of-negative c.args.x h) (omega (arith, ints))

pub returns-else-x-lt0 : goal.returns-else-x-lt0
returns-else-x-lt0 c = let h : pos 0 ≤ℤ c.args.x = grind (arith, ints) in rw (← abs-of-nonneg c.args.x h) (omega (arith, ints))
