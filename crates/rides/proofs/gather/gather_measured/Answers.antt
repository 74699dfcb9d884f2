use mathlib.Core.Path.{◌≡◌, refl, sym, ap, ◌∙◌}
use mathlib.Core.Bool.{Bool, true}
use mathlib.Core.List.{List}
use Prim.Native.Nat.{ℕ}
use native.Mathlib.Omega.{arith}
use lib.IntN.{ℤ}
use lib.ListN.{length}
use Rattle.std.specs.Prelude.{Err}
use Rattle.tables.specs.Checks.{Checked, order_ok, order_of}
use Rattle.tables.specs.Problem.{lengths_of, constraint_entered}
use Rattle.tables.specs.declared.problem.Constraint.{Constraint}
use Rattle.tables.proofs.Answers.{handed_on}
use Rattle.tables.proofs.Admission.{no-order, no-sizes, order-passed, order-refused}
use Rattle.sums.specs.Sums.{Outcome}
use Rattle.sums.specs.Lent.{Lent, Left}
use Rattle.sums.specs.Required.{stated, Stated}
use Rattle.sums.proofs.Laying.{stated_by}
use Rattle.samples.specs.Samples.{factor_count, factor_of}
use Rattle.samples.specs.Gathering.{checked_sums, entered_sums}
use Rattle.samples.proofs.Laid.{arrays_rooms}
use Rattle.rides.specs.Act.{held_lent, gather_sizes, SumsSizes, laid_sample}
use Rattle.rides.proofs.Laying.{order_given, sums-sizes-of, sums-sized}
use Rattle.rides.proofs.gather.gather_measured.Given.{Over}
use Rattle.rides.proofs.gather.gather_measured.Goals as goal
use Rattle.rides.proofs.gather.gather_measured.Goals.{Start, After-sums_sized, Else-not-sums_sized, After-add_checked}

module _ (g : Over) where
  module _ (s : Start g) where
    -- the lent sums of a call
    abbrev lent : Lent (List g.row.E.Denot)
    lent = let a = s.args in record { low = a.low.now; high = a.high.now; from = a.from.now; to = a.to.now; limit = a.limit.now }

    abbrev posed : Constraint
    posed = held_lent g.E.Element.numbers (order_of s.args.n) lent

    -- what check 2 finds
    abbrev sizes : Bool
    sizes = gather_sizes g.E.Element.taken (order_of s.args.n) lent

    -- what gathering gives, and the buffers with it
    abbrev whole : Outcome
    whole = entered_sums (factor_of s.args.m) s.args.m.draw s.args.n sizes posed

    abbrev given : Outcome → Left (List g.row.E.Denot)
    given o = laid_sample g.E.Element.elements o lent

    abbrev Lying : ℕ → Type 0
    Lying k =
        SumsSizes g.E.Element.taken k (lengths_of (length lent.low) (length lent.high) (length lent.from) (length lent.to))
        (length lent.limit)

    module _ (passed : sizes ≡ true) where
      lying : Lying factor_count
      lying =
          let z : Lying (order_of s.args.n) = sums-sizes-of _ _ _ _ passed in
          record { order = refl; low = z.low; high = z.high; linear_low = z.linear_low; linear_high = z.linear_high; limit = z.limit }

      -- added to where they stand as numbers
      states : order_ok s.args.n ≡ true → {d : Constraint} {r : Checked} {l u f t : List ℤ} {α : ℤ} →
          d ≡ held_lent g.E.Element.numbers factor_count lent →
          Stated factor_count (checked_sums (factor_of s.args.m) s.args.m.draw d) r l u f t α → Stated factor_count whole r l u f t α
      states h e =
          let F = factor_of s.args.m in
          let z : Lying (order_of s.args.n) = sums-sizes-of _ _ _ _ passed in
          stated_by
          (ap (checked_sums F s.args.m.draw) e
          ∙ ap (λ (k : ℕ). checked_sums F s.args.m.draw (held_lent g.E.Element.numbers k lent)) (sym z.order)
          ∙ sums-sized F s.args.m.draw s.args.n sizes posed h passed refl)

  found : (c : After-sums_sized g) → c.sums_sized.result ≡ sizes (goal.at.After-sums_sized g c).Start
  found c = rw (c.lengths_of-lengths.ensures, (order-passed c.ranges.n c.in_ok-order.ensures).0) at c.sums_sized.ensures

  passed : (c : Else-not-sums_sized g) → sizes (goal.at.Else-not-sums_sized g c).Start ≡ true
  passed c = sym (found (goal.at.Else-not-sums_sized g c).After-sums_sized) ∙ c.if-not-sums_sized.false

  summed : (c : After-add_checked g) → let s = (goal.at.After-add_checked g c).Start in let o = c.add_checked.new.sums in
      Stated factor_count (whole s) c.add_checked.result o.low.now o.high.now o.from.now o.to.now o.limit
  summed c =
      let p = goal.at.After-add_checked g c in
      let first = c.load_sample.ensures.place.order in
      let order = c.add_checked.ensures.place.order ∙ first in
      states p.Start (passed p.Else-not-sums_sized) (order-passed c.ranges.n c.in_ok-order.ensures).1
      (rw first at c.load_sample.ensures.sums.sums) (rw (order, first) at c.add_checked.ensures.sums)

pub returns-in_err-order : goal.returns-in_err-order
unfolding constraint_entered
returns-in_err-order g c =
    let o = order-refused c.ranges.n c.in_err-order.ensures in
    rw (handed_on c.from_residual.ensures.1, o.0) (ap (given g (goal.at.returns-in_err-order g c).Start) (no-order _ _ _ _ _ Err _ o.1))

pub returns-then-not-sums_sized : goal.returns-then-not-sums_sized
unfolding constraint_entered
returns-then-not-sums_sized g c =
    let p = goal.at.returns-then-not-sums_sized g c in
    ap (given g p.Start)
    (no-sizes _ _ _ _ _ Err _ (order_given _ (order-passed c.ranges.n c.in_ok-order.ensures).1)
    (sym (found g p.After-sums_sized) ∙ c.if-not-sums_sized.true))

pub load_sample-requires : goal.load_sample-requires
load_sample-requires g c =
    let p = goal.at.load_sample-requires g c in (
      refl,
      (omega arith, arrays_rooms (record { low = refl; high = refl; linear_low = refl; linear_high = refl })),
      lying g p.Start (passed g p.Else-not-sums_sized),
    )

pub add_checked-requires : goal.add_checked-requires
add_checked-requires g c =
    let w = c.load_sample.ensures in
    (c.requires, w.place.order, (omega (arith, w.place.order), w.sums.rooms))

pub store_sample-requires : goal.store_sample-requires
store_sample-requires g c =
    let p = goal.at.store_sample-requires g c in
    let order = c.add_checked.ensures.place.order ∙ c.load_sample.ensures.place.order in
    (order, rw order (omega arith, (summed g p.After-add_checked).rooms), lying g p.Start (passed g p.Else-not-sums_sized))

pub returns-in_err-add_checked : goal.returns-in_err-add_checked
unfolding stated
returns-in_err-add_checked g c =
    let p = goal.at.returns-in_err-add_checked g c in
    rw (handed_on c.from_residual-in_err-add_checked.ensures.1)
    (ap (given g p.Start) (sym (rw c.in_err-add_checked.was at (summed g p.After-add_checked)).outcome))

pub returns : goal.returns
unfolding stated
returns g c =
    let p = goal.at.returns g c in
    let order = c.add_checked.ensures.place.order ∙ c.load_sample.ensures.place.order in
    (rw order at c.store_sample.ensures)
    ∙ ap (given g p.Start) (sym (rw c.in_ok-add_checked.was at (summed g p.After-add_checked)).outcome)
