use mathlib.Core.Path.{◌≡◌, sym, ◌∙◌}
use Prim.Native.Nat.{◌-◌}
use native.Mathlib.Omega.{arith}
use native.Mathlib.Numerals.{add-one}
use Rattle.integers.proofs.Parts.{le_z_true}
use Rattle.cholesky.specs.Store.{upper}
use Rattle.cholesky.proofs.Rows.{left_factorable}
use Rattle.cholesky.proofs.Passing.{row_done, row_next, ends-row, ends_stop, ends_last, some_before, none_end}
use Rattle.cholesky.proofs.row_step.ends_from.Goals as goal

pub returns-then-is_some : goal.returns-then-is_some
returns-then-is_some c =
    let v = c.loop-i.invariant in
    let t = c.take_row.ensures in
    sym (v.2 ∙ ends_stop t.1.columns (omega arith) v.1 (some_before _ t.0 (sym c.is_some.ensures ∙ c.if-is_some.true)))

pub loop-i-preserved : goal.loop-i-preserved
loop-i-preserved c =
    let v = c.loop-i.invariant in
    let e = none_end c.take_row.result c.args.n (sym c.is_some.ensures ∙ c.if-is_some.false) in
    let t = rw e at c.take_row.ensures.1.columns in
    rw add-one (left_factorable v.0 (omega arith) (row_done t (omega arith)), row_next t (omega arith) (omega arith), v.2 ∙ ends-row t (omega arith) v.1 (omega arith))

pub returns : goal.returns
returns c =
    let v = c.loop-i.invariant in
    let e : c.args.n - c.loop-i.i ≡ 1 = omega arith in
    sym (v.2 ∙ rw e (ends_last (upper c.loop-i.s) c.loop-i.i ∙ le_z_true v.1))
