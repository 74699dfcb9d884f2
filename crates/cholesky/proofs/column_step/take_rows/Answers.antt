use mathlib.Core.Path.{refl}
use native.Mathlib.Numerals.{add-one}
use Rattle.integers.specs.Division.{floor_div}
use Rattle.integers.proofs.Machine.{clean_element}
use Rattle.tables.proofs.Checks.{call_false, call_true}
use Rattle.cholesky.specs.Store.{upper}
use Rattle.cholesky.specs.Rows.{ColumnTaken}
use Rattle.cholesky.proofs.Taken.{taking-start, taking_rowed, taking_divisor, taking_stops, taking_on}
use Rattle.cholesky.proofs.column_step.take_rows.Lts as lts
use Rattle.cholesky.proofs.column_step.take_rows.Tie as tie
use Rattle.cholesky.proofs.column_step.take_rows.Reads as reads
use Rattle.cholesky.proofs.column_step.take_rows.Goals as goal

abbrev After-take_column : Type 0
After-take_column = lts.After-take_column tie.the-claims reads.Pre reads.Post goal.the-invariant-loop-i goal.the-decreases-loop-i

-- what the call says of the row
module _ (c : After-take_column) where
  row-taken : ColumnTaken c.loop-i.s c.loop-i.i c.args.j (floor_div (upper c.loop-i.s c.loop-i.i c.args.j) (upper c.loop-i.s c.loop-i.i c.loop-i.i))
      c.take_column.result c.take_column.new.s
  unfolding upper
  row-taken = rw (clean_element _ c.d-1.given) at c.take_column.ensures

pub loop-i-init : goal.loop-i-init
unfolding upper
loop-i-init c = taking-start c.requires.0 c.requires.1

pub take_column-requires : goal.take_column-requires
unfolding upper
take_column-requires c =
    let z = c.requires.0 in
    let h = c.loop-i-test.true in
    (taking_rowed z h c.loop-i.invariant, rw (clean_element _ c.d-1.given) (taking_divisor z h c.loop-i.invariant))

pub returns-then-not-take_column : goal.returns-then-not-take_column
unfolding upper
returns-then-not-take_column c =
    (c.loop-i-test.true, taking_stops c.requires.0 c.loop-i-test.true c.loop-i.invariant (row-taken c.before) (call_false refl c.if-not-take_column.true-raw))

pub loop-i-preserved : goal.loop-i-preserved
unfolding upper
loop-i-preserved c =
    rw add-one (taking_on c.requires.0 c.loop-i-test.true c.loop-i.invariant (row-taken c.before) (call_true refl c.if-not-take_column.false-raw))
