use mathlib.Core.Path.{◌≡◌}
use Prim.Native.Nat.{◌<◌}
use native.Mathlib.Omega.{arith}
use native.Mathlib.Numerals.{add-one}
use Rattle.integers.proofs.Machine.{clean}
use Rattle.tables.proofs.Buffers.{filled_more, filled-whole}
use Rattle.samples.specs.Samples.{factor_count, number_count}
use Rattle.samples.proofs.Near.{negated_fits, read_low, read-high, least-within, greatest-within}
use Rattle.samples.proofs.adding.lay_draws.Goals as goal

draw : factor_count < number_count
draw = omega arith

pub overflow_sub-a : goal.overflow_sub-a
overflow_sub-a c =
    let high = greatest-within c.requires.0 (omega arith) draw in
    rw (read-high c.product_ends-loss.ensures high) (negated_fits high)

pub overflow_sub-b : goal.overflow_sub-b
overflow_sub-b c =
    let low = least-within c.requires.0 (omega arith) draw in
    rw (read_low c.product_ends-loss.ensures low) (negated_fits low)

pub loop-i-preserved : goal.loop-i-preserved
loop-i-preserved c =
    let f : c.loop-i.i < number_count = omega arith in
    let high = greatest-within c.requires.0 f draw in
    let low = least-within c.requires.0 f draw in (
      rw add-one (filled_more c.loop-i-test.true (rw (read-high c.product_ends-loss.ensures high)
          (clean (negated_fits high))) c.loop-i.invariant.0),
      rw add-one (filled_more c.loop-i-test.true (rw (read_low c.product_ends-loss.ensures low)
          (clean (negated_fits low))) c.loop-i.invariant.1),
    )

pub returns : goal.returns
returns c =
    let e : c.loop-i.i ≡ factor_count = omega arith in
    (filled-whole _ _ (rw e at c.loop-i.invariant.0), filled-whole _ _ (rw e at c.loop-i.invariant.1))
