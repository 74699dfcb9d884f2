use mathlib.Core.Path.{◌∙◌}
use native.Mathlib.Omega.{arith}
use Prim.Native.Nat.{◌*◌}
use Rattle.integers.proofs.Machine.{clean_element}
use Rattle.tables.specs.Matrix.{nth}
use Rattle.samples.specs.Samples.{factor_count}
use Rattle.rides.proofs.Held.{loaded-sums, loaded-first}
use Rattle.rides.proofs.gather.load_sample.Goals as goal

pub returns-clause-sums : goal.returns-clause-sums
returns-clause-sums g c =
    let s = c.requires.2 in
    let whole = g.E.Element.laws.numbers_whole in
    let m = factor_count * factor_count in
    let limit = loaded-first 1 _ _ (whole c.args.limit.now 1 s.limit) c.load-5.ensures (omega arith) in
    rw c.requires.0
    (loaded-sums factor_count _ _ _ _ _ _ _ _ (whole c.args.low.now m s.low) (whole c.args.high.now m s.high)
    (whole c.args.from.now factor_count s.linear_low) (whole c.args.to.now factor_count s.linear_high) c.load.ensures c.load-2.ensures
    c.load-3.ensures c.load-4.ensures
    (clean_element (nth c.load-5.new.out 0) (omega arith) ∙ limit))
