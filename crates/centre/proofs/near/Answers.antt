use mathlib.Core.Path.{sym}
use Prim.Native.Nat.{◌<◌}
use native.Mathlib.Omega.{arith}
use lib.IntN.{pos}
use lib.ListN.{take}
use lib.Seq.{get_or-take, length-take-le}
use Rattle.integers.proofs.Parts.{le_z_true, le_z_false}
use Rattle.integers.proofs.Machine.{clean_element, lt_holds, lt_fails}
use Rattle.tables.specs.Ranges.{gradient_range}
use Rattle.tables.specs.Matrix.{nth}
use Rattle.tables.proofs.Checks.{all_none, all_more, all_false}
use Rattle.centre.proofs.near.Goals as goal

pub loop-x-init : goal.loop-x-init
loop-x-init c = all_none _

pub returns-then-x-gt-GRADIENT_RANGE : goal.returns-then-x-gt-GRADIENT_RANGE
returns-then-x-gt-GRADIENT_RANGE c =
    let n = c.args.n in
    let g = c.args.g.now in
    let k = c.loop-x.x-index in
    let passed : k < n = omega (arith, length-take-le n g (omega arith)) in
    let t = rw (clean_element (nth (take n g) k) (omega arith), get_or-take n g k (pos 0) passed) at c.if-x-gt-GRADIENT_RANGE.true in
    sym (all_false _ n k passed (le_z_false {x = nth g k} {y = pos gradient_range} (lt_holds t)))

pub loop-x-preserved : goal.loop-x-preserved
loop-x-preserved c =
    let n = c.args.n in
    let g = c.args.g.now in
    let k = c.loop-x.x-index in
    let passed : k < n = omega (arith, length-take-le n g (omega arith)) in
    let t = rw (clean_element (nth (take n g) k) (omega arith), get_or-take n g k (pos 0) passed) at c.if-x-gt-GRADIENT_RANGE.false in
    all_more _ k c.loop-x.invariant (le_z_true {x = nth g k} {y = pos gradient_range} (lt_fails t))
