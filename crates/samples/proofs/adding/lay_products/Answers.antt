use mathlib.Core.Path.{◌≡◌}
use Prim.Native.Nat.{◌*◌}
use native.Mathlib.Omega.{arith}
use Rattle.tables.specs.Matrix.{table}
use Rattle.tables.proofs.Buffers.{filled-whole}
use Rattle.samples.specs.Samples.{factor_count}
use Rattle.samples.proofs.adding.lay_products.Goals as goal

pub returns : goal.returns
unfolding table
returns c =
    let e : c.loop-k.k ≡ factor_count * factor_count = omega arith in
    (filled-whole _ _ (rw e at c.loop-k.invariant.0), filled-whole _ _ (rw e at c.loop-k.invariant.1))
