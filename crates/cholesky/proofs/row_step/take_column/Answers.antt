use mathlib.Core.Path.{◌≡◌}
use mathlib.Core.Bool.{true}
use Rattle.integers.proofs.Machine.{clean, clean_result, clean_element}
use Rattle.integers.specs.Division.{floor_div}
use Rattle.tables.specs.Ranges.{factor_range}
use Rattle.tables.specs.Checks.{within}
use Rattle.tables.proofs.Checks.{within_of, call_false, call_true}
use Rattle.cholesky.specs.Store.{upper}
use Rattle.cholesky.proofs.Rows.{column_out, column_rowed, column_in_lem}
use Rattle.cholesky.proofs.row_step.take_column.Lts as lts
use Rattle.cholesky.proofs.row_step.take_column.Tie as tie
use Rattle.cholesky.proofs.row_step.take_column.Reads as reads
use Rattle.cholesky.proofs.row_step.take_column.Goals as goal

abbrev After-floor_div : Type 0
After-floor_div = lts.After-floor_div tie.the-claims reads.Pre reads.Post

abbrev Else1 : Type 0
Else1 = lts.Else1 tie.the-claims reads.Pre reads.Post

-- r(i,j)
entry_is : (c : After-floor_div) →
    (let a = c.args in c.floor_div-r.result ≡ floor_div (upper a.s.now a.i a.j) a.d)
unfolding upper
entry_is c = rw (clean c.ranges.d, clean_element _ c.floor_div-arg-1.given) at c.floor_div-r.ensures

passed : (c : Else1) → within factor_range c.floor_div-r.result ≡ true
passed c = rw (clean_result c.floor_div-r) at (call_true c.within.ensures c.if-not-within.false-raw)

pub returns-then-not-within : goal.returns-then-not-within
unfolding upper
returns-then-not-within c =
    let e = clean_result c.floor_div-r in
    rw (e, ← entry_is c.before.before) (column_out c.requires.0 _ (rw e at (call_false c.within.ensures c.if-not-within.true-raw)))

pub subtract_products-requires : goal.subtract_products-requires
unfolding upper
subtract_products-requires c =
    let w = within_of factor_range _ (passed c.before) in
    rw (clean_result c.floor_div-r) (column_rowed c.requires.0 _ w, w)

pub returns : goal.returns
unfolding upper
returns c =
    rw (clean_element _ c.result-1.given, ← entry_is c.before.before.before.before.before)
    (column_in_lem c.requires.0 _ (passed c.before.before.before) (rw (clean_result c.floor_div-r) at c.subtract_products.ensures))
