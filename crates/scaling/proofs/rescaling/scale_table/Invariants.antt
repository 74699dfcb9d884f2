-- The loop's invariant: the rows before i are scaled.
use mathlib.Core.Path.{◌≡◌}
use Prim.Native.Nat.{◌*◌}
use lib.ListN.{length}
use Rattle.tables.specs.Ranges.{table_room}
use Rattle.tables.specs.Matrix.{at}
use Rattle.scaling.specs.Scratch.{scale_in, Part}
use Rattle.scaling.proofs.rescaling.scale_table.Given as goal

abbrev pub invariant-loop-i : goal.invariant-loop-i
invariant-loop-i l = (length l.t ≡ table_room) × Part l.n (scale_in l.x) (at l.n l.initial.t) 0 (l.i * l.n) l.t
