-- The loop's invariant: the numbers passed, with those of g added, are within the bound.
use mathlib.Core.Path.{◌≡◌}
use mathlib.Core.Bool.{true}
use lib.IntN.{nat_abs, ◌+ℤ◌}
use lib.ListN.{length}
use Rattle.tables.specs.Matrix.{nth}
use Rattle.tables.specs.Checks.{all, within}
use Rattle.sums.proofs.adding.added_within.Given as goal

abbrev pub invariant-loop-v : goal.invariant-loop-v
invariant-loop-v live = all (length live.yielded) (λ i. within (nat_abs live.bound) (nth live.x i +ℤ nth live.g i)) ≡ true
