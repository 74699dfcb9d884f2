-- The loop's invariant: the first i entries are laid over the area as it was.
use Rattle.cholesky.specs.Store.{column_of}
use Rattle.bus.specs.Area.{area_of, laid_column}
use Rattle.bus.proofs.Areas.{Area}
use Rattle.bus.proofs.area.store_column.Given as goal

abbrev pub invariant-loop-i : goal.invariant-loop-i
invariant-loop-i l = Area l.run (laid_column (area_of l.initial.run) l.j (column_of l.t l.j l.i))
