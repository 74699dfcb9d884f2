use mathlib.Core.Path.{◌≡◌, refl, sym, ap, ◌∙◌}
use mathlib.Core.Bool.{Bool, true, ◌&&◌}
use mathlib.Core.List.{List}
use Prim.Native.Nat.{ℕ, ◌*◌}
use native.Mathlib.Omega.{arith}
use lib.IntN.{ℤ}
use Rattle.integers.proofs.Machine.{clean}
use Rattle.tables.specs.Checks.{order_of}
use Rattle.tables.specs.Entering.{Entered}
use Rattle.tables.proofs.Checks.{and_left, and_by}
use Rattle.tables.proofs.Answers.{exactly, handed_on}
use Rattle.tables.proofs.Admission.{order_small, order_fits, order-positive, order-passed, order-refused}
use Rattle.tables.proofs.Admission.{no-order, no-sizes, came-through, entered-refused, entered-passed}
use Rattle.verdict.specs.Judge.{Judgement, refused, Judged, stored, judge_lengths, judging, judge_act, Meaning}
use Rattle.verdict.proofs.Decisions.{judge-sizes-of}
use Rattle.verdict.proofs.Meanings.{act-means}
use Rattle.verdict.proofs.judge.judge_among.Given.{Over}
use Rattle.verdict.proofs.judge.judge_among.Goals as goal
use Rattle.verdict.proofs.judge.judge_among.Goals.{Start, After-sizes_ok-own, Joined-own, After-enter}

module _ (g : Over) where
  module _ (s : Start g) where
    abbrev order : ℕ
    order = order_of s.args.n

    -- the numbers that the buffers hold
    abbrev low : List ℤ
    low = g.E.Element.numbers s.args.low.now (order * order)

    abbrev high : List ℤ
    high = g.E.Element.numbers s.args.high.now (order * order)

    -- what check 2 asks of the act's own buffers, and of all
    abbrev own : Bool
    own = judge_lengths g.E.Element.taken order s.args.low.now s.args.high.now s.args.factor.now s.args.vector.now

    abbrev sizes : Bool
    sizes = own && s.args.others

    -- both buffers with a judgement
    abbrev given : Judgement → Judged (List g.row.E.Denot)
    given j = stored g.E.Element.elements order j s.args.factor.now s.args.vector.now

    -- what an answer means
    abbrev Means : Judged (List g.row.E.Denot) → Type 0
    Means j = Meaning s.args.n low high j.verdict (g.E.Element.numbers j.factor (order * order)) (g.E.Element.numbers j.vector order)

    means : (j : Judged (List g.row.E.Denot)) → j ≡ given (judging s.args.n sizes low high) →
        record { exact : j ≡ given (judging s.args.n sizes low high); meaning : Means j }
    means = exactly Means (act-means g.E.Element.laws s.args.n low high s.args.factor.now s.args.vector.now sizes)

  -- what check 2 finds
  sized : (c : After-sizes_ok-own g) → c.sizes_ok-own.result ≡ own (goal.at.After-sizes_ok-own g c).Start
  sized c =
      rw (c.taken-table.ensures, c.taken-entries.ensures, (order-passed c.ranges.n c.in_ok-m.ensures).0) at c.sizes_ok-own.ensures

  found : (c : Joined-own g) → c.if-own.sized ≡ sizes (goal.at.Joined-own g c).Start
  found c =
      rw (sized (goal.at.Joined-own g c).After-sizes_ok-own) at (and_by c.if-own.sized c.if-own.sized-true c.if-own.sized-false)

  -- the door, with what it found
  came : (c : After-enter g) → let s = (goal.at.After-enter g c).Start in
      Entered s.args.n (sizes s) true (low s) (high s) c.enter.result c.enter.new.l c.enter.new.u
  came c = rw (clean c.ranges.n, found (goal.at.After-enter g c).Joined-own) at c.enter.ensures

pub returns-in_err-m : goal.returns-in_err-m
unfolding judge_act judging
returns-in_err-m g c =
    let o = order-refused c.ranges.n c.in_err-m.ensures in
    let s = (goal.at.returns-in_err-m g c).Start in
    means g s _ (rw (handed_on c.from_residual.ensures.1, o.0) (ap (given g s) (no-order _ _ _ _ _ refused _ o.1)))

pub overflow_mul-m : goal.overflow_mul-m
overflow_mul-m g c = record { fits = omega (arith, order_fits _ (order-passed c.ranges.n c.in_ok-m.ensures).0) }

pub taken-table-requires : goal.taken-table-requires
taken-table-requires g c = omega (arith, order_fits _ (order-passed c.ranges.n c.in_ok-m.ensures).0)

pub taken-entries-requires : goal.taken-entries-requires
taken-entries-requires g c = omega (arith, order_small c.args.n, (order-passed c.ranges.n c.in_ok-m.ensures).0)

pub returns-then-not-sized : goal.returns-then-not-sized
unfolding judge_act judging
returns-then-not-sized g c =
    let o = (order-passed c.ranges.n c.in_ok-m.ensures).1 in
    let e = sym (found g (goal.at.returns-then-not-sized g c).Joined-own) ∙ c.if-not-sized.true in
    let s = (goal.at.returns-then-not-sized g c).Start in
    means g s _ (ap (given g s) (no-sizes _ _ _ _ _ refused _ (λ z. omega (arith, z, order-positive _ o)) e))

pub enter-requires : goal.enter-requires
enter-requires g c = (
  (λ s.
      rw (clean c.ranges.n)
      (let z = judge-sizes-of _ _ _ _ _ _ (sym (sized g (goal.at.enter-requires g c).After-sizes_ok-own) ∙ (c.if-own.sized-true s).0) in
      (z.0, z.1))),
  refl,
  refl,
)

pub returns-in_err-enter : goal.returns-in_err-enter
unfolding judge_act judging
returns-in_err-enter g c =
    let d = came g (goal.at.returns-in_err-enter g c).After-enter in
    let s = (goal.at.returns-in_err-enter g c).Start in
    let r = entered-refused _ _ _ _ _ refused _ d c.in_err-enter.was in
    means g s _ (rw (handed_on c.from_residual-in_err-enter.ensures.1) (ap (given g s) r))

pub judge_bounds-requires : goal.judge_bounds-requires
judge_bounds-requires g c =
    let d = came g (goal.at.judge_bounds-requires g c).After-enter in
    let s = (goal.at.judge_bounds-requires g c).Start in
    let q = c.in_ok-enter.was in
    let b = came-through _ _ _ _ _ d q in
    let z = judge-sizes-of _ _ _ _ _ _ (and_left (own g s) s.args.others b.sizes) in
    rw (order-passed c.ranges.n c.in_ok-m.ensures).0 ((d.held q).tables, d.rooms, order-positive _ b.ordered, z.2, z.3)

pub returns : goal.returns
unfolding judge_act judging
returns g c =
    let d = came g (goal.at.returns g c).After-enter in
    let q = c.in_ok-enter.was in
    let h = d.held q in
    let s = (goal.at.returns g c).Start in
    means g s _
    ((rw ((order-passed c.ranges.n c.in_ok-m.ensures).0, h.low, h.high) at c.judge_bounds.ensures)
    ∙ ap (given g s) (entered-passed _ _ _ _ _ refused _ d q))
