use mathlib.Core.Path.{◌≡◌}
use Prim.Native.Nat.{◌*◌, ◌%◌, ◌^◌, ◌<◌}
use native.Mathlib.Omega.{arith}
use lib.Pow.{pow_mono}
use Rattle.integers.proofs.Machine.{read_i64}
use Rattle.scaling.proofs.exponents.power.Goals as goal

pub returns : goal.returns
returns c =
    let k = c.args.k in
    let m : 2 ^ k < 2 ^ 63 = omega (arith, pow_mono {i = k} {j = 20} c.requires) in
    let e : 1 * 2 ^ k % 18446744073709551616 ≡ 2 ^ k = omega arith in
    rw e (read_i64 (2 ^ k) m)
