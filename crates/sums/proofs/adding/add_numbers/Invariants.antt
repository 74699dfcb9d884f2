-- The loop's invariant: the first k numbers of x have those of g added, and the others are as they were.
use lib.IntN.{◌+ℤ◌}
use lib.ListN.{length}
use Rattle.tables.specs.Matrix.{nth}
use Rattle.sums.proofs.InPlace.{Replaced}
use Rattle.sums.proofs.adding.add_numbers.Given as goal

abbrev pub invariant-loop-k : goal.invariant-loop-k
invariant-loop-k live = Replaced (length live.initial.x) live.k (λ i. nth live.initial.x i +ℤ nth live.g i) live.initial.x live.x
