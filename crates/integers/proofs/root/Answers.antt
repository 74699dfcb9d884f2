use Prim.Native.Nat.{ℕ, zero, suc, ◌*◌, ◌≤◌, ◌<◌}
use native.Mathlib.Nat.{mul-le-mul}
use native.Mathlib.Omega.{arith}
use Rattle.integers.proofs.Roots.{newton_above, newton_falls}
use Rattle.integers.proofs.root.Goals as goal

some : (x r : ℕ) → x < r * r → 0 < r
some x zero h = omega arith
some x (suc r) h = omega arith

pub loop-above-smaller : goal.loop-above-smaller
loop-above-smaller c = rw c.newton-above.ensures (newton_falls _ _ c.loop-above-test.true)

pub loop-above-init : goal.loop-above-init
loop-above-init c = c.first_step-above.ensures

pub overflow_mul-above : goal.overflow_mul-above
overflow_mul-above c = let k : c.loop-above.above ≤ 4294967295 = omega arith in omega (arith, mul-le-mul k k)

pub newton-above-requires : goal.newton-above-requires
newton-above-requires c = (some _ _ c.loop-above-test.true, omega arith, omega arith)

pub loop-above-preserved : goal.loop-above-preserved
loop-above-preserved c =
    let l = c.loop-above in
    (rw c.newton-above.ensures (newton_above _ l.above (some _ _ c.loop-above-test.true)), omega (arith, loop-above-smaller c))

pub returns : goal.returns
returns c = let l = c.loop-above in (omega arith, l.invariant.0, l.invariant.1)
