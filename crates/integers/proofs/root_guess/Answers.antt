use mathlib.Core.Path.{◌≡◌}
use Prim.Native.Nat.{ℕ, suc, ◌+◌, ◌*◌, ◌/◌, ◌%◌, ◌^◌, ◌≤◌, ◌<◌}
use native.Mathlib.Nat.{div-le_self, mul-le-mul_right, le_trans}
use native.Mathlib.Omega.{arith}
use lib.Count.{count_leading_zeros, leading_top}
use lib.Pow.{pow_mono, pow-add, shl_exact}
use Rattle.integers.proofs.root_guess.Lts as lts
use Rattle.integers.proofs.root_guess.Tie as tie
use Rattle.integers.proofs.root_guess.Reads as reads
use Rattle.integers.proofs.root_guess.Goals as goal

abbrev After-interpolated_root : Type 0
After-interpolated_root = lts.After-interpolated_root tie.the-claims reads.Pre reads.Post

abbrev Start : Type 0
Start = lts.Start tie.the-claims reads.Pre reads.Post

-- x 4^k, at the k of the code
record Scale (x z : ℕ) : Type 0 where
  zeros : z < 64
  high : 2 ^ 62 ≤ x * 2 ^ (2 * (z / 2)) % 2 ^ 64

scale : (x : ℕ) → 0 < x → x < 2 ^ 63 → Scale x (count_leading_zeros 64 x)
scale x h l = go (leading_top 64 x h (omega arith))
  where
    go : (j : ℕ) × (count_leading_zeros 64 x + suc j ≡ 64) × (2 ^ j ≤ x) × (x < 2 ^ suc j) → Scale x (count_leading_zeros 64 x)
    go t =
        let k = 2 * (count_leading_zeros 64 x / 2) in
        let a : 62 ≤ t.0 + k = omega (arith, t.1) in
        let b : suc t.0 + k ≤ 64 = omega (arith, t.1) in
        let low : 2 ^ 62 ≤ 2 ^ t.0 * 2 ^ k = rw (pow-add 2 t.0 k) at (pow_mono a) in
        record { zeros = omega (arith, t.1); high = rw (shl_exact (suc t.0) k 64 t.3 b) (le_trans low (mul-le-mul_right (2 ^ k) t.2)) }

at : (c : Start) → Scale c.args.x (count_leading_zeros 64 c.args.x)
at c = scale c.args.x c.requires.0 c.requires.1

shifted : (c : After-interpolated_root) → c.interpolated_root.result / 2 ^ (count_leading_zeros 64 c.args.x / 2) < 2 ^ 33
shifted c = omega (arith, c.interpolated_root.ensures, div-le_self c.interpolated_root.result (2 ^ (count_leading_zeros 64 c.args.x / 2)))

pub overflow_mul-k : goal.overflow_mul-k
overflow_mul-k c = omega (arith, (at c).zeros)

pub overflow_cast-k : goal.overflow_cast-k
overflow_cast-k c = omega (arith, (at c).zeros)

pub overflow_shl-x : goal.overflow_shl-x
overflow_shl-x c = omega (arith, (at c).zeros)

pub interpolated_root-requires : goal.interpolated_root-requires
interpolated_root-requires c = (at c).high

pub overflow_cast-result : goal.overflow_cast-result
overflow_cast-result c = omega (arith, (at c.before).zeros)

pub overflow_shr-result : goal.overflow_shr-result
overflow_shr-result c = omega (arith, (at c.before).zeros)

pub overflow_add-result : goal.overflow_add-result
overflow_add-result c = omega (arith, shifted c)

pub returns : goal.returns
returns c = omega (arith, shifted c)
