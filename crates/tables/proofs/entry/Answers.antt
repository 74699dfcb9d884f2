use Prim.Native.Nat.{◌+◌, ◌*◌, ◌≤◌, ◌<◌}
use native.Mathlib.Omega.{arith}
use Rattle.integers.proofs.Machine.{clean_element}
use Rattle.tables.specs.Ranges.{table_room}
use Rattle.tables.specs.Matrix.{at}
use Rattle.tables.proofs.Matrix.{inside, table_fits}
use Rattle.tables.proofs.entry.Lts as lts
use Rattle.tables.proofs.entry.Reads as reads
use Rattle.tables.proofs.entry.Goals as goal

abbrev Start : Type 0
Start = lts.Start reads.Pre reads.Post

place : (c : Start) → (c.args.i * c.args.n + c.args.j < c.args.n * c.args.n) × (c.args.n * c.args.n ≤ table_room)
place c = let p = c.requires in (inside p.1 p.2, table_fits p.0)

pub overflow_mul-result : goal.overflow_mul-result
unfolding at
overflow_mul-result c = omega (arith, place c)

pub overflow_add-result : goal.overflow_add-result
unfolding at
overflow_add-result c = omega (arith, place c)

pub offset_bounds-t-i : goal.offset_bounds-t-i
unfolding at
offset_bounds-t-i c = omega (arith, place c)

pub bounds-t-i : goal.bounds-t-i
unfolding at
bounds-t-i c = omega (arith, place c)

pub returns : goal.returns
unfolding at
returns c = clean_element _ c.result-1.given
