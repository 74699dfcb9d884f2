-- The loop's invariant: the numbers passed are let through.
use mathlib.Core.Path.{◌≡◌}
use mathlib.Core.Bool.{true}
use lib.IntN.{pos}
use lib.Signed.{le_z}
use Rattle.tables.specs.Ranges.{gradient_range}
use Rattle.tables.specs.Matrix.{nth}
use Rattle.tables.specs.Checks.{all}
use Rattle.centre.proofs.near.Given as goal

abbrev pub invariant-loop-x : goal.invariant-loop-x
invariant-loop-x live = all live.x-index (λ i. le_z (nth live.g i) (pos gradient_range)) ≡ true
