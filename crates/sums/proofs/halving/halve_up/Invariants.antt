-- The loop's invariant: the numbers passed are halved, and the others are as they were.
use lib.ListN.{length}
use Rattle.tables.specs.Matrix.{nth}
use Rattle.sums.specs.Halving.{half_up}
use Rattle.sums.proofs.InPlace.{Replaced}
use Rattle.sums.proofs.halving.halve_up.Given as goal

abbrev pub invariant-loop-v : goal.invariant-loop-v
invariant-loop-v live = let x = live.initial.v-items in Replaced (length x) live.v-index (λ i. half_up (nth x i)) x live.v-items
