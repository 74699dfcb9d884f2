use mathlib.Core.Path.{◌≡◌, ◌∙◌}
use Prim.Native.Nat.{◌+◌, ◌*◌, ◌<◌}
use native.Mathlib.Omega.{arith}
use mir.Syntax.{w64}
use mir.Val.{to_z, of_z}
use Rattle.integers.specs.Root.{whole_root}
use Rattle.integers.proofs.Parts.{≤ℤ_trans, pos_nonneg}
use Rattle.integers.proofs.Roots.{root_law, root_one}
use Rattle.integers.proofs.Machine.{clean_result, clean_element}
use Rattle.tables.specs.Ranges.{table_room}
use Rattle.cholesky.specs.Store.{upper, stride}
use Rattle.cholesky.proofs.Rows.{row-taken}
use Rattle.cholesky.proofs.row_step.take_row.Lts as lts
use Rattle.cholesky.proofs.row_step.take_row.Tie as tie
use Rattle.cholesky.proofs.row_step.take_row.Reads as reads
use Rattle.cholesky.proofs.row_step.take_row.Goals as goal

abbrev After-whole_root : Type 0
After-whole_root = lts.After-whole_root tie.the-claims reads.Pre reads.Post

abbrev Start : Type 0
Start = lts.Start tie.the-claims reads.Pre reads.Post

place : (c : Start) → stride * c.args.i + c.args.i < table_room
place c = let p = c.requires.0 in omega (arith, p.order, c.requires.1)

root_is : (c : After-whole_root) →
    (let a = c.args in to_z w64 (of_z w64 c.whole_root-d.result) ≡ whole_root (upper a.s.now a.i a.i))
unfolding upper
root_is c = clean_result c.whole_root-d ∙ (rw (clean_element _ c.whole_root-arg-1.given) at c.whole_root-d.ensures)

pub overflow_mul-i : goal.overflow_mul-i
unfolding upper
overflow_mul-i c = omega (arith, place c)

pub overflow_add-i : goal.overflow_add-i
unfolding upper
overflow_add-i c = omega (arith, place c)

pub offset_bounds-s-i : goal.offset_bounds-s-i
unfolding upper
offset_bounds-s-i c = omega (arith, place c)

pub bounds-s-i : goal.bounds-s-i
unfolding upper
bounds-s-i c = place c

pub whole_root-d-requires : goal.whole_root-d-requires
unfolding upper
whole_root-d-requires c = rw (clean_element _ c.whole_root-arg-1.given) (≤ℤ_trans (pos_nonneg 1) c.requires.2)

pub take_columns-stop-requires : goal.take_columns-stop-requires
unfolding upper
take_columns-stop-requires c =
    let p = c.requires in
    (p.0, p.1, rw (root_is c.before) (root_one p.2 (root_law _ (≤ℤ_trans (pos_nonneg 1) p.2))), root_is c.before)

pub overflow_mul-d : goal.overflow_mul-d
unfolding upper
overflow_mul-d c = omega (arith, place c.before.before.before.before)

pub overflow_add-d : goal.overflow_add-d
unfolding upper
overflow_add-d c = omega (arith, place c.before.before.before.before)

pub offset_bounds-s-i-2 : goal.offset_bounds-s-i-2
unfolding upper
offset_bounds-s-i-2 c = omega (arith, place c.before.before.before.before)

pub bounds-s-i-2 : goal.bounds-s-i-2
unfolding upper
bounds-s-i-2 c = place c.before.before.before.before

pub returns : goal.returns
unfolding upper
returns c =
    let p = c.requires in
    let t = c.take_columns-stop.ensures in
    (t.0, row-taken p.0 p.1 (root_is c.before.before) t.1)
