-- The loop's invariant: Y(i) is filled in for each i passed.
use lib.IntN.{◌+ℤ◌}
use Rattle.integers.specs.Division.{ceil_div}
use Rattle.integers.specs.Root.{least_root}
use Rattle.tables.specs.Ranges.{greatest_order}
use Rattle.tables.specs.Matrix.{nth}
use Rattle.tables.specs.Buffers.{Filled}
use Rattle.sides.proofs.first_halves.Given as goal

abbrev pub invariant-loop-k : goal.invariant-loop-k
invariant-loop-k live = Filled greatest_order live.k (λ i. ceil_div (nth live.g i) live.t +ℤ least_root live.t live.b) live.y
