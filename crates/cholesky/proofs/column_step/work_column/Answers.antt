use mathlib.Core.Path.{◌∙◌}
use native.Mathlib.Omega.{arith}
use lib.IntN.{ℤ, pos}
use Rattle.integers.proofs.Parts.{≤ℤ_trans, pos_nonneg}
use Rattle.integers.proofs.Machine.{clean_result, clean_element}
use Rattle.tables.proofs.Checks.{le_of, read_less, read_not_less}
use Rattle.cholesky.specs.Store.{upper}
use Rattle.cholesky.proofs.Taken.{worked-none, worked_stops, worked_some, worked_rooted}
use Rattle.cholesky.proofs.column_step.work_column.Lts as lts
use Rattle.cholesky.proofs.column_step.work_column.Tie as tie
use Rattle.cholesky.proofs.column_step.work_column.Reads as reads
use Rattle.cholesky.proofs.column_step.work_column.Goals as goal

abbrev Start : Type 0
Start = lts.Start tie.the-claims reads.Pre reads.Post

-- the diagonal entry of H
abbrev diagonal : Start → ℤ
diagonal c = upper c.args.s.now c.args.j c.args.j

pub returns-then-s-j-lt1 : goal.returns-then-s-j-lt1
unfolding upper
returns-then-s-j-lt1 c = worked-none c.requires (read_less (diagonal c.before.before) (pos 1) c.t9-1.given (omega arith) c.if-s-j-lt1.true)

pub take_rows-requires : goal.take_rows-requires
unfolding upper
take_rows-requires c =
    (c.requires, le_of (pos 1) _ (read_not_less (diagonal c.before.before.before) (pos 1) c.t9-1.given (omega arith) c.if-s-j-lt1.false))

pub returns-in-Some : goal.returns-in-Some
unfolding upper
returns-in-Some c = let t = c.in-Some.ensures in worked_stops c.requires t.1 t.0

pub whole_root-requires : goal.whole_root-requires
unfolding upper
whole_root-requires c =
    let z = c.requires in
    rw (clean_element _ c.whole_root-arg-1.given) (≤ℤ_trans (pos_nonneg 1) (worked_some z c.in_default.ensures.1 (omega arith)))

pub returns : goal.returns
unfolding upper
returns c =
    let z = c.requires in
    worked_rooted z c.in_default.ensures.1 (omega arith)
    (clean_result c.whole_root ∙ (rw (clean_element _ c.whole_root-arg-1.given) at c.whole_root.ensures))
