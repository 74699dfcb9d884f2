use mathlib.Core.Path.{ap, ◌∙◌}
use native.Mathlib.Omega.{arith}
use lib.IntN.{nat_abs}
use Rattle.integers.proofs.Machine.{clean, as_usize, size_as_usize, read_i64}
use Rattle.integers.proofs.Roots.{root_is}
use Rattle.integers.proofs.whole_root.Goals as goal

pub overflow_cast-x : goal.overflow_cast-x
overflow_cast-x c = as_usize c.ranges.x c.requires

pub root-requires : goal.root-requires
root-requires c = size_as_usize c.ranges.x c.requires

pub returns : goal.returns
returns c =
    let x = c.args.x in
    let r = c.root.result in
    let e = ap nat_abs (clean c.ranges.x) in
    let q = c.root.ensures in
    read_i64 r (omega arith) ∙ root_is x r c.requires (rw e at q.0) (rw e at q.1)
