use mathlib.Core.Path.{sym, ◌∙◌}
use native.Mathlib.Omega.{arith}
use native.Mathlib.Numerals.{add-one}
use Prim.Native.Nat.{◌+◌}
use mir.Syntax.{w64}
use mir.Val.{to_z, of_z}
use lib.ListN.{set}
use Rattle.integers.proofs.Machine.{clean_element, lt_holds, lt_fails}
use Rattle.tables.specs.Bounded.{low_of, high_of}
use Rattle.cholesky.specs.Store.{upper}
use Rattle.cholesky.proofs.Passing.{row_next, some_before, none_end}
use Rattle.steps.specs.Steps.{step_at}
use Rattle.steps.proofs.Walked.{first_stops, walked_start, walked_on, walked_off, stopped_later, step-at_is, step-at-none}
use Rattle.steps.proofs.Stored.{Stored, stored_none, stored_more, stored_end}
use Rattle.steps.proofs.steps_at.Goals as goal
use Rattle.steps.proofs.steps_at.Goals.{After-take_row}

-- with the step of k
stored : (c : After-take_row) → let b = c.args.bounds in
    Stored b.order (step_at b.order (low_of b) (high_of b)) (c.loop-k.k + 1)
    (set c.loop-k.t c.loop-k.k (to_z w64 (of_z w64 c.search.result)))
stored c =
    let p = c.args.bounds.checked in
    let k = c.loop-k-test.true in
    let v = c.loop-k.invariant in
    let e = clean_element c.search.result c.search.type_inv ∙ (rw add-one at c.search.ensures) ∙ step-at_is p.bounds k v.1 in
    rw add-one (stored_more p.order k e v.0)

pub returns-then-h-lt1 : goal.returns-then-h-lt1
unfolding upper
returns-then-h-lt1 c =
    let p = c.args.bounds.checked in
    let s = first_stops c.scale.ensures (lt_holds (rw (clean_element _ c.t12-1.given) at c.if-h-lt1.true)) in
    stored_end p.order (stored_none p.order) (λ j q l. step-at-none p.bounds l (stopped_later s j (omega arith)))

pub loop-k-init : goal.loop-k-init
unfolding upper
loop-k-init c =
    let p = c.args.bounds.checked in (
      stored_none p.order,
      walked_start p.bounds p.order c.scale.ensures,
      λ k. lt_fails (rw (clean_element _ c.t12-1.given) at c.if-h-lt1.false),
    )

pub returns-then-is_some : goal.returns-then-is_some
returns-then-is_some c =
    let p = c.args.bounds.checked in
    let t = c.take_row.ensures in
    let e = some_before _ t.0 (sym c.is_some.ensures ∙ c.if-is_some.true) in
    let s = walked_off c.loop-k.invariant.1 c.loop-k-test.true t.1.columns e in
    stored_end p.order (stored (goal.at.returns-then-is_some c).After-take_row)
    (λ j q l. step-at-none p.bounds l (stopped_later s j (omega arith)))

pub loop-k-preserved : goal.loop-k-preserved
loop-k-preserved c =
    let e = none_end c.take_row.result c.args.bounds.order (sym c.is_some.ensures ∙ c.if-is_some.false) in
    let x = rw e at c.take_row.ensures.1.columns in
    let k = c.loop-k-test.true in
    let v = c.loop-k.invariant in
    rw add-one (
      rw add-one at (stored (goal.at.loop-k-preserved c).After-take_row),
      walked_on v.1 k x (v.2 k) (omega arith),
      row_next x (omega arith),
    )
