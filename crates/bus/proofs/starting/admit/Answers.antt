-- The door: checks 1 and 2, then the tables are loaded, and the checks of them.
use mathlib.Core.Path.{refl, sym, ◌∙◌}
use mathlib.Core.Bool.{true}
use native.Mathlib.Omega.{arith}
use Rattle.std.specs.Prelude.{Err}
use Rattle.tables.specs.Checks.{order_of}
use Rattle.tables.specs.Entering.{Entered}
use Rattle.tables.proofs.Answers.{handed_on}
use Rattle.tables.proofs.Admission.{order_small, order_fits, order-positive, order-passed, order-refused}
use Rattle.tables.proofs.Admission.{no-order, no-sizes, entered-refused, entered-passed}
use Rattle.buffers.specs.Buffers.{table_of}
use Rattle.buffers.proofs.Loading.{came-sized}
use Rattle.bus.specs.Bus.{tables_sized}
use Rattle.bus.specs.Required.{admitted}
use Rattle.bus.proofs.Sizes.{tables-sized-of}
use Rattle.bus.proofs.starting.admit.Goals as goal
use Rattle.bus.proofs.starting.admit.Goals.{After-check_laid}

-- the door, with what it found
came : (c : After-check_laid) → let a = c.args in let k = order_of a.n in
    Entered a.n (tables_sized k a.low.now a.high.now) true (table_of k a.low.now) (table_of k a.high.now)
    c.check_laid.result c.check_laid.new.l c.check_laid.new.u
came c =
    let o = order-passed c.ranges.n c.in_ok-m.ensures in
    came-sized _ _ o.0 o.1 (rw o.0 at c.tables_sized-sized.ensures) c.if-not-sized.false c.load_bounds.ensures c.check_laid.ensures

pub returns-in_err-m : goal.returns-in_err-m
unfolding admitted
returns-in_err-m c =
    let o = order-refused c.ranges.n c.in_err-m.ensures in
    rw (handed_on c.from_residual.ensures.1, o.0) record { answer = no-order _ _ _ _ _ Err _ o.1; held = tt }

pub tables_sized-sized-requires : goal.tables_sized-sized-requires
tables_sized-sized-requires c = rw (order-passed c.ranges.n c.in_ok-m.ensures).0 (order_small _)

pub returns-then-not-sized : goal.returns-then-not-sized
unfolding admitted
returns-then-not-sized c =
    let o = order-passed c.ranges.n c.in_ok-m.ensures in
    let z = sym (rw o.0 at c.tables_sized-sized.ensures) ∙ c.if-not-sized.true in
    record { answer = no-sizes _ _ _ _ _ Err _ (λ e. absurd (omega (arith, order-positive _ o.1, e))) z; held = tt }

pub load_bounds-requires : goal.load_bounds-requires
load_bounds-requires c =
    let p = c.requires in
    let o = order-passed c.ranges.n c.in_ok-m.ensures in
    let z = rw o.0 at c.tables_sized-sized.ensures in
    rw o.0 (order_small _, (λ s. let t = tables-sized-of _ _ _ (sym z ∙ s) in (omega (arith, t.0), omega (arith, t.1))), p.0, p.1)

pub check_laid-requires : goal.check_laid-requires
check_laid-requires c =
    rw (order-passed c.ranges.n c.in_ok-m.ensures).0 (order_small _, order_fits _ refl, c.load_bounds.ensures.rooms)

pub returns-in_err-check_laid : goal.returns-in_err-check_laid
unfolding admitted
returns-in_err-check_laid c =
    let d = came (goal.at.returns-in_err-check_laid c).After-check_laid in
    rw (handed_on c.from_residual-in_err-check_laid.ensures.1)
    record { answer = entered-refused _ _ _ _ _ Err _ d c.in_err-check_laid.was; held = tt }

pub returns : goal.returns
unfolding admitted
returns c =
    let d = came (goal.at.returns c).After-check_laid in
    let q = c.in_ok-check_laid.was in
    rw (order-passed c.ranges.n c.in_ok-m.ensures).0 record { answer = entered-passed _ _ _ _ _ Err _ d q; held = d.held q }
