use mathlib.Core.Path.{refl, sym, ◌∙◌}
use mathlib.Core.Bool.{true}
use Prim.Native.Nat.{◌*◌}
use native.Mathlib.Omega.{arith}
use lib.ListN.{length}
use Rattle.std.specs.Prelude.{Err}
use Rattle.integers.proofs.Machine.{clean}
use Rattle.tables.specs.Checks.{order_of, sizes_ok}
use Rattle.tables.specs.Entering.{Entered}
use Rattle.tables.proofs.Answers.{handed_on}
use Rattle.tables.proofs.Checks.{sizes-of}
use Rattle.tables.proofs.Admission.{order_fits, order-passed, order-refused, no-order, entered-refused, entered-passed}
use Rattle.hankboulder_bench.specs.Timed.{factoring}
use Rattle.hankboulder_bench.proofs.factor.Goals as goal
use Rattle.hankboulder_bench.proofs.factor.Goals.{After-enter}

-- the door, with what it found
came : (c : After-enter) → let a = c.args in let k = order_of a.n in
    Entered a.n (sizes_ok (k * k) (k * k) (length a.low.now) (length a.high.now) (length a.high.now)) true a.low.now a.high.now
    c.enter.result c.enter.new.l c.enter.new.u
came c = rw (clean c.ranges.n, c.sizes_ok-sized.ensures, (order-passed c.ranges.n c.in_ok-m.ensures).0) at c.enter.ensures

pub returns-in_err-m : goal.returns-in_err-m
unfolding factoring
returns-in_err-m c =
    let o = order-refused c.ranges.n c.in_err-m.ensures in
    rw (handed_on c.from_residual.ensures.1, o.0) (no-order _ _ _ _ _ Err _ o.1)

pub overflow_mul-size : goal.overflow_mul-size
overflow_mul-size c = record { fits = omega (arith, order_fits _ (order-passed c.ranges.n c.in_ok-m.ensures).0) }

pub enter-requires : goal.enter-requires
enter-requires c =
    let o = order-passed c.ranges.n c.in_ok-m.ensures in
    ((λ s. rw (clean c.ranges.n) (let z = sizes-of _ _ _ _ _ (sym (rw o.0 at c.sizes_ok-sized.ensures) ∙ s) in (z.0, z.1))), refl, refl)

pub returns-in_err-enter : goal.returns-in_err-enter
unfolding factoring
returns-in_err-enter c =
    rw (handed_on c.from_residual-in_err-enter.ensures.1)
    (entered-refused _ _ _ _ _ Err _ (came (goal.at.returns-in_err-enter c).After-enter) c.in_err-enter.was)

pub slice_bounds-bounds-end : goal.slice_bounds-bounds-end
slice_bounds-bounds-end c = sym c.enter.ensures.rooms.low-size

pub slice_bounds-bounds-end-2 : goal.slice_bounds-bounds-end-2
slice_bounds-bounds-end-2 c = sym c.enter.ensures.rooms.high-size

pub invariant_of-bounds : goal.invariant_of-bounds
invariant_of-bounds c =
    let d = came (goal.at.invariant_of-bounds c).After-enter in
    rw (order-passed c.ranges.n c.in_ok-m.ensures).0 (record { checked = (d.held c.in_ok-enter.was).tables })

pub returns : goal.returns
unfolding factoring
returns c =
    let d = came (goal.at.returns c).After-enter in
    let q = c.in_ok-enter.was in
    let h = d.held q in
    rw (rw ((order-passed c.ranges.n c.in_ok-m.ensures).0, h.low, h.high) at c.ends.ensures) (entered-passed _ _ _ _ _ Err _ d q)
