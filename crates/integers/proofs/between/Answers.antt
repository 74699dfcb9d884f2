use Prim.Native.Nat.{ℕ, ◌*◌, ◌-◌, ◌≤◌, ◌<◌}
use native.Mathlib.Nat.{mul-le-mul}
use native.Mathlib.Omega.{arith}
use Rattle.integers.proofs.between.Lts as lts
use Rattle.integers.proofs.between.Reads as reads
use Rattle.integers.proofs.between.Goals as goal

abbrev Start : Type 0
Start = lts.Start reads.Pre reads.Post

product : (r p : ℕ) → r < 65536 → p ≤ 65536 → r * p ≤ 65535 * 65536
product r p h k = let l : r ≤ 65535 = omega arith in mul-le-mul l k

first : (c : Start) → c.args.low * (65536 - c.args.part) ≤ 65535 * 65536
first c = product _ _ c.ranges.low.fits (omega arith)

second : (c : Start) → c.args.high * c.args.part ≤ 65535 * 65536
second c = product _ _ c.ranges.high.fits (omega arith)

pub overflow_mul-result : goal.overflow_mul-result
overflow_mul-result c = omega (arith, first c)

pub overflow_mul-result-2 : goal.overflow_mul-result-2
overflow_mul-result-2 c = omega (arith, second c)

pub overflow_add-result : goal.overflow_add-result
overflow_add-result c = omega (arith, first c, second c)

pub returns : goal.returns
returns c = omega (arith, first c, second c)
