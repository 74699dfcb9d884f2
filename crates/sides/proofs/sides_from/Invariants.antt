-- The loop's invariant: the sides passed are written.
use Rattle.tables.specs.Matrix.{nth}
use Rattle.sides.specs.Sides.{smaller_half}
use Rattle.sides.specs.Required.{SidesIn}
use Rattle.sides.proofs.sides_from.Given as goal

abbrev pub invariant-loop-k : goal.invariant-loop-k
invariant-loop-k live = SidesIn live.k (nth live.c) (λ i. smaller_half (nth live.y i) (nth live.tk i) live.b) live.sides
