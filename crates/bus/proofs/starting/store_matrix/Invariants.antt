-- The loop's invariant: the columns before j are those of H.
use Rattle.tables.specs.Bounded.{low_of, high_of}
use Rattle.cholesky.specs.Scale.{scaled}
use Rattle.bus.specs.Area.{area_of, laid_columns}
use Rattle.bus.proofs.Areas.{Area}
use Rattle.bus.proofs.starting.store_matrix.Given as goal

abbrev pub invariant-loop-j : goal.invariant-loop-j
invariant-loop-j l = Area l.run (laid_columns (scaled l.bounds.order (low_of l.bounds) (high_of l.bounds)) l.j (area_of l.initial.run))
