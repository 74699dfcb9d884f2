-- The loop's invariant: the first i numbers are laid over the area as it was.
use lib.ListN.{take}
use Rattle.bus.specs.Area.{area_of, laid_over}
use Rattle.bus.proofs.Areas.{Area}
use Rattle.bus.proofs.area.store_part.Given as goal

abbrev pub invariant-loop-i : goal.invariant-loop-i
invariant-loop-i l = Area l.run (laid_over (area_of l.initial.run) l.first (take l.i l.x))
