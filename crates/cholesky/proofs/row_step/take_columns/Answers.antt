use mathlib.Core.Path.{refl}
use native.Mathlib.Omega.{arith}
use native.Mathlib.Numerals.{add-one}
use Rattle.integers.specs.Division.{floor_div}
use Rattle.integers.specs.Root.{whole_root}
use Rattle.integers.proofs.Machine.{clean}
use Rattle.tables.proofs.Checks.{call_false, call_true}
use Rattle.cholesky.specs.Store.{upper}
use Rattle.cholesky.specs.Rows.{ColumnTaken}
use Rattle.cholesky.proofs.Rows.{going_rowed, going_stops, going_on}
use Rattle.cholesky.proofs.row_step.take_columns.Lts as lts
use Rattle.cholesky.proofs.row_step.take_columns.Tie as tie
use Rattle.cholesky.proofs.row_step.take_columns.Reads as reads
use Rattle.cholesky.proofs.row_step.take_columns.Goals as goal

abbrev After-take_column : Type 0
After-take_column = lts.After-take_column tie.the-claims reads.Pre reads.Post goal.the-invariant-loop-j goal.the-decreases-loop-j

-- what the call says of the column
module _ (c : After-take_column) where
  column_taken_lem : ColumnTaken c.loop-j.s c.args.i c.loop-j.j
      (floor_div (upper c.loop-j.s c.args.i c.loop-j.j) (whole_root (upper c.args.s.now c.args.i c.args.i))) c.take_column.result c.take_column.new.s
  column_taken_lem = rw (clean c.ranges.d, c.requires.3) at c.take_column.ensures

pub take_column-requires : goal.take_column-requires
take_column-requires c =
    (going_rowed c.requires.0 (omega arith) c.loop-j-test.true c.loop-j.invariant, rw (clean c.ranges.d) c.requires.2)

pub returns-then-not-take_column : goal.returns-then-not-take_column
returns-then-not-take_column c = (
  c.loop-j-test.true,
  going_stops c.requires.0 (omega arith) c.loop-j-test.true c.loop-j.invariant (column_taken_lem c.before) (call_false refl c.if-not-take_column.true-raw),
)

pub loop-j-preserved : goal.loop-j-preserved
loop-j-preserved c =
    rw add-one (going_on c.requires.0 (omega arith) c.loop-j-test.true c.loop-j.invariant (column_taken_lem c.before) (call_true refl c.if-not-take_column.false-raw))
