-- The loop's invariant: the entries of row i before j are scaled.
use mathlib.Core.Path.{◌≡◌}
use Prim.Native.Nat.{◌+◌, ◌*◌}
use lib.ListN.{length}
use Rattle.tables.specs.Ranges.{table_room}
use Rattle.tables.specs.Matrix.{at}
use Rattle.scaling.specs.Scratch.{scale_in, Part}
use Rattle.scaling.proofs.rescaling.scale_row.Given as goal

abbrev pub invariant-loop-j : goal.invariant-loop-j
invariant-loop-j l = (length l.t ≡ table_room) × Part l.n (scale_in l.x) (at l.n l.initial.t) (l.i * l.n) (l.i * l.n + l.j) l.t
