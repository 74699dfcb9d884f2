-- The loop's invariant: the first j entries of row i pass. The measure is how many are left.
use mathlib.Core.Path.{◌≡◌}
use mathlib.Core.Bool.{true}
use Prim.Native.Nat.{suc, ◌≤◌}
use Rattle.tables.specs.Matrix.{at}
use Rattle.tables.specs.Checks.{all}
use Rattle.tables.specs.Pairs.{pair_bounded}
use Rattle.tables.proofs.row_bounded.Given as goal

abbrev pub invariant-loop-j : goal.invariant-loop-j
invariant-loop-j g l =
    let L = at l.bounds.order l.bounds.low.now in
    let U = at l.bounds.order l.bounds.high.now in
    (l.j ≤ suc l.i) × (all l.j (λ j. pair_bounded g.P.PairTest.even (L l.i j) (L j l.i) (U l.i j) (U j l.i)) ≡ true)
