use mathlib.Core.Path.{◌∙◌}
use Prim.Native.Nat.{◌*◌, ◌-◌, ◌<◌}
use native.Mathlib.Omega.{arith}
use lib.IntN.{pos}
use lib.ListN.{drop}
use lib.Seq.{get_or-drop, get_or-take}
use Rattle.integers.proofs.Machine.{clean}
use Rattle.tables.specs.Ranges.{table_room}
use Rattle.tables.specs.Checks.{all_within}
use Rattle.tables.proofs.Checks.{all_ext}
use Rattle.cholesky.specs.Store.{stride, upper}
use Rattle.bus.proofs.safety.column_within.Goals as goal

pub returns : goal.returns
unfolding all_within upper
returns c =
    let a = c.args in
    let s = stride * a.j in
    let m = table_room - s in
    rw (clean c.ranges.bound) at c.all_within.ensures
    ∙ all_ext a.count _ _ (λ k h. let l : k < m = omega arith in rw (get_or-take m (drop s a.t.now) k (pos 0) l, get_or-drop))
