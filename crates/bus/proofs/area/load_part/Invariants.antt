-- The loop's invariant: the first i numbers are loaded.
use mathlib.Core.Path.{◌≡◌}
use mathlib.Core.List.{◌++◌}
use lib.ListN.{take, drop}
use Rattle.bus.specs.Area.{area_of}
use Rattle.bus.proofs.area.load_part.Given as goal

abbrev pub invariant-loop-i : goal.invariant-loop-i
invariant-loop-i l = l.out ≡ take l.i (drop l.first (area_of l.run)) ++ drop l.i l.initial.out
