use mathlib.Core.Path.{◌≡◌, refl, sym, ◌∙◌}
use mathlib.Core.Bool.{Bool, true}
use Prim.Native.Nat.{◌*◌}
use native.Mathlib.Omega.{arith}
use lib.ListN.{length}
use Rattle.integers.proofs.Machine.{clean}
use Rattle.tables.specs.Matrix.{at}
use Rattle.tables.specs.Checks.{order_of}
use Rattle.tables.specs.Entering.{low_bounds, high_bounds, Entered}
use Rattle.tables.proofs.Answers.{handed_on}
use Rattle.tables.proofs.Admission.{order_fits, no-order, order-passed, order-refused, came-through, entered-refused, entered-passed}
use Rattle.residual.specs.ResidualAct.{Tabled, kept, tabled, tabling, residual_sizes, residual_act}
use Rattle.residual.proofs.InOrder.{residual-sizes-of}
use Rattle.residual.proofs.residual.residual.Goals as goal
use Rattle.residual.proofs.residual.residual.Goals.{Start, After-sizes_ok-sized, After-enter}

-- what check 2 finds
abbrev sizes : Start → Bool
sizes s =
    let a = s.args in
    let k = order_of a.n in
    residual_sizes (k * k) (length a.low.now) (length a.high.now) (length a.factor.now) (length a.low_residual.now)
    (length a.high_residual.now)

sized : (c : After-sizes_ok-sized) → let a = c.args in let k = order_of a.n in
    c.sizes_ok-sized.result ≡
    residual_sizes (k * k) (length a.low.now) (length a.high.now) (length a.factor.now) (length a.low_residual.now)
    (length a.high_residual.now)
sized c = rw (order-passed c.ranges.n c.in_ok-m.ensures).0 at c.sizes_ok-sized.ensures

-- the door, with what it found
came : (c : After-enter) → let a = c.args in let k = order_of a.n in
    Entered a.n (residual_sizes (k * k) (length a.low.now) (length a.high.now) (length a.factor.now) (length a.low_residual.now)
    (length a.high_residual.now)) true a.low.now a.high.now
    c.enter.result c.enter.new.l c.enter.new.u
came c = rw (clean c.ranges.n, c.sizes_ok-sized.ensures, (order-passed c.ranges.n c.in_ok-m.ensures).0) at c.enter.ensures

-- what is answered behind it
abbrev behind : Start → Tabled
behind s =
    let a = s.args in
    let k = order_of a.n in
    tabled k (low_bounds k a.low.now) (high_bounds k a.high.now) (at k a.factor.now) a.low_residual.now a.high_residual.now

pub returns-in_err-m : goal.returns-in_err-m
unfolding residual_act tabling
returns-in_err-m c =
    let o = order-refused c.ranges.n c.in_err-m.ensures in
    record { exact = rw (handed_on c.from_residual.ensures.1, o.0) (no-order _ _ _ _ _ (kept _ _) _ o.1) }

pub overflow_mul-m : goal.overflow_mul-m
overflow_mul-m c = record { fits = omega (arith, order_fits _ (order-passed c.ranges.n c.in_ok-m.ensures).0) }

pub enter-requires : goal.enter-requires
enter-requires c = (
  (λ s. rw (clean c.ranges.n) (let z = residual-sizes-of _ _ _ _ _ _ (sym (sized (goal.at.enter-requires c).After-sizes_ok-sized) ∙ s) in
      (z.0, z.1))),
  refl,
  refl,
)

pub returns-in_err-enter : goal.returns-in_err-enter
unfolding residual_act tabling
returns-in_err-enter c =
    let d = came (goal.at.returns-in_err-enter c).After-enter in
    record { exact = rw (handed_on c.from_residual-in_err-enter.ensures.1) (entered-refused _ _ _ _ _ (kept _ _) _ d c.in_err-enter.was) }

pub write_residual-requires : goal.write_residual-requires
write_residual-requires c =
    let d = came (goal.at.write_residual-requires c).After-enter in
    let q = c.in_ok-enter.was in
    let z = residual-sizes-of _ _ _ _ _ _ (came-through _ _ _ _ _ d q).sizes in
    rw (order-passed c.ranges.n c.in_ok-m.ensures).0 ((d.held q).tables, d.rooms, omega (arith, z.2), z.3, z.4)

pub returns : goal.returns
unfolding residual_act tabling
returns c =
    let d = came (goal.at.returns c).After-enter in
    let q = c.in_ok-enter.was in
    let h = d.held q in
    let s = (goal.at.returns c).Start in
    record {
      exact = ◌∙◌ {b = behind s} (rw ((order-passed c.ranges.n c.in_ok-m.ensures).0, h.low, h.high) at c.write_residual.ensures)
          (entered-passed _ _ _ _ _ (kept _ _) (behind s) d q);
    }
