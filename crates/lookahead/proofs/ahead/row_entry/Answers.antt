-- A row has its room in the array.
use mathlib.Core.Path.{◌∙◌}
use Prim.Native.Nat.{◌+◌, ◌*◌, ◌<◌}
use native.Mathlib.Omega.{arith}
use Rattle.integers.proofs.Machine.{clean_element}
use Rattle.lookahead.specs.Pairs.{pairs_room}
use Rattle.lookahead.proofs.Sizes.{row_inside, row_at}
use Rattle.lookahead.proofs.ahead.row_entry.Lts as lts
use Rattle.lookahead.proofs.ahead.row_entry.Reads as reads
use Rattle.lookahead.proofs.ahead.row_entry.Goals as goal

abbrev Start : Type 0
Start = lts.Start reads.Pre reads.Post

place : (c : Start) → c.args.start + c.args.d * c.args.n + c.args.k < pairs_room
place c = let p = c.requires in row_inside p.0 p.1 p.2 p.3

pub overflow_mul-result : goal.overflow_mul-result
overflow_mul-result c = omega (arith, place c)

pub overflow_add-result : goal.overflow_add-result
overflow_add-result c = omega (arith, place c)

pub overflow_add-result-2 : goal.overflow_add-result-2
overflow_add-result-2 c = omega (arith, place c)

pub offset_bounds-pairs-start : goal.offset_bounds-pairs-start
offset_bounds-pairs-start c = omega (arith, place c)

pub bounds-pairs-start : goal.bounds-pairs-start
bounds-pairs-start c = omega (arith, place c)

pub returns : goal.returns
returns c = let p = c.requires in clean_element _ c.result-1.given ∙ row_at p.0 p.1 p.2 p.3
