-- The loop's invariant: the numbers before i stand in the array.
use Rattle.tables.specs.Bounded.{high_of}
use Rattle.scaling.specs.Scaling.{exponents}
use Rattle.scaling.specs.Scratch.{Scale}
use Rattle.scaling.proofs.exponents.find_scale.Given as goal

abbrev pub invariant-loop-i : goal.invariant-loop-i
invariant-loop-i l = Scale (exponents (high_of l.bounds)) l.i l.scale
