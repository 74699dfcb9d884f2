use mathlib.Core.Path.{◌≡◌, refl, sym, ◌∙◌}
use mathlib.Core.Bool.{Bool, ◌&&◌}
use native.Mathlib.Omega.{arith}
use lib.IntN.{ℤ}
use lib.ListN.{length}
use Rattle.std.specs.Prelude.{Result, Err}
use Rattle.integers.proofs.Machine.{clean}
use Rattle.tables.specs.Checks.{order_of}
use Rattle.tables.specs.Problem.{lengths_of, constraint_entered}
use Rattle.tables.specs.declared.Refusal.{Refusal}
use Rattle.tables.specs.declared.problem.Constraint.{Constraint}
use Rattle.tables.proofs.Answers.{exactly, handed_on}
use Rattle.tables.proofs.Checks.{and_left, and_by}
use Rattle.tables.proofs.Admission.{order_small, order_fits, no-order, no-sizes, order-passed, order-refused}
use Rattle.tables.proofs.Problems.{constraint_sizes-of}
use Rattle.rides.specs.Reading.{held_sums, reading_sizes, read_sums, ReadingMeaning}
use Rattle.rides.proofs.Laying.{order_given}
use Rattle.rides.proofs.Readings.{reading-sized, reading-means}
use Rattle.rides.proofs.reading.read_sums_among.Given.{Over}
use Rattle.rides.proofs.reading.read_sums_among.Goals as goal
use Rattle.rides.proofs.reading.read_sums_among.Goals.{Start, After-constraint_sized-own, Joined-own}

module _ (g : Over) where
  -- the sums that the buffers hold, and what check 2 asks of these, and of all
  module _ (s : Start g) where
    abbrev sums : Constraint
    sums = let a = s.args in held_sums g.E.Element.numbers (order_of a.n) a.low.now a.high.now a.from.now a.to.now a.running

    abbrev own : Bool
    own =
        let a = s.args in
        reading_sizes g.E.Element.taken (order_of a.n) (lengths_of (length a.low.now) (length a.high.now) (length a.from.now)
        (length a.to.now))

    abbrev sizes : Bool
    sizes = own && s.args.others

    abbrev act : Result ℤ Refusal
    act = read_sums s.args.n sizes s.args.allowance sums

    -- what an answer means
    means : (r : Result ℤ Refusal) → r ≡ act → record { exact : r ≡ act; meaning : ReadingMeaning r s.args.allowance sums }
    means = exactly (λ (r : Result ℤ Refusal). ReadingMeaning r s.args.allowance sums) (reading-means s.args.n sizes s.args.allowance sums)

  -- what check 2 finds
  sized : (c : After-constraint_sized-own g) → c.constraint_sized-own.result ≡ own (goal.at.After-constraint_sized-own g c).Start
  sized c =
      rw (c.lengths_of-lengths.ensures, c.taken.ensures, c.taken-2.ensures, (order-passed c.ranges.n c.in_ok-m.ensures).0)
      at c.constraint_sized-own.ensures

  found : (c : Joined-own g) → c.if-own.sized ≡ sizes (goal.at.Joined-own g c).Start
  found c =
      rw (sized (goal.at.Joined-own g c).After-constraint_sized-own) at (and_by c.if-own.sized c.if-own.sized-true c.if-own.sized-false)

pub returns-in_err-m : goal.returns-in_err-m
unfolding read_sums constraint_entered
returns-in_err-m g c =
    let o = order-refused c.ranges.n c.in_err-m.ensures in
    means g (goal.at.returns-in_err-m g c).Start _ (rw (handed_on c.from_residual.ensures.1, o.0) (no-order _ _ _ _ _ Err _ o.1))

pub overflow_mul-m : goal.overflow_mul-m
overflow_mul-m g c = record { fits = omega (arith, order_fits _ (order-passed c.ranges.n c.in_ok-m.ensures).0) }

pub taken-requires : goal.taken-requires
taken-requires g c = omega (arith, order_fits _ (order-passed c.ranges.n c.in_ok-m.ensures).0)

pub taken-requires-2 : goal.taken-requires-2
taken-requires-2 g c = omega (arith, order_small c.args.n, (order-passed c.ranges.n c.in_ok-m.ensures).0)

pub returns-then-not-sized : goal.returns-then-not-sized
unfolding read_sums constraint_entered
returns-then-not-sized g c =
    let p = goal.at.returns-then-not-sized g c in
    means g p.Start _
    (no-sizes _ _ _ _ _ Err _ (order_given _ (order-passed c.ranges.n c.in_ok-m.ensures).1)
    (sym (found g p.Joined-own) ∙ c.if-not-sized.true))

pub read_held-requires : goal.read_held-requires
read_held-requires g c =
    let z = constraint_sizes-of _ _ (and_left _ _ (sym (found g (goal.at.read_held-requires g c).Joined-own) ∙ c.if-not-sized.false)) in
    rw (order-passed c.ranges.n c.in_ok-m.ensures).0 (order_small _, z.0, z.1, z.2, z.3)

pub returns : goal.returns
returns g c =
    let p = goal.at.returns g c in
    let s = p.Start in
    let o = order-passed c.ranges.n c.in_ok-m.ensures in
    let read = rw (o.0, clean c.ranges.running, clean c.ranges.allowance) at c.read_held.ensures in
    means g s _ (read ∙ reading-sized c.args.n (sizes g s) c.args.allowance (sums g s) o.1
    (sym (found g p.Joined-own) ∙ c.if-not-sized.false) refl)
