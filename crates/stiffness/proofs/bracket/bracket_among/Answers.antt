use mathlib.Core.Path.{◌≡◌, refl, sym, ap, ◌∙◌}
use mathlib.Core.Bool.{Bool, true, ◌&&◌}
use mathlib.Core.List.{List}
use Prim.Native.Nat.{ℕ, ◌*◌}
use native.Mathlib.Omega.{arith}
use lib.IntN.{ℤ}
use Rattle.integers.proofs.Machine.{clean}
use Rattle.tables.specs.Checks.{order_of}
use Rattle.tables.specs.Entering.{Entered}
use Rattle.tables.proofs.Answers.{exactly, handed_on}
use Rattle.tables.proofs.Checks.{and_left, sizes-of}
use Rattle.tables.proofs.Admission.{order_small, order_fits, order-positive, no-order, no-sizes, order-passed, order-refused}
use Rattle.tables.proofs.Admission.{came-through, entered-refused, entered-passed}
use Rattle.stiffness.specs.Bracket.{Bracketing, refused, Bracketed, stored, bracket_lengths, bracketing, bracket_act, Meaning}
use Rattle.stiffness.proofs.Fitting.{act-means}
use Rattle.stiffness.proofs.bracket.bracket_among.Given.{Over}
use Rattle.stiffness.proofs.bracket.bracket_among.Goals as goal
use Rattle.stiffness.proofs.bracket.bracket_among.Goals.{Start, After-sizes_ok-own, Joined-own, then-own, else-own, After-enter}

module _ (g : Over) where
  module _ (s : Start g) where
    abbrev order : ℕ
    order = order_of s.args.n

    -- the numbers that the buffers hold
    abbrev low : List ℤ
    low = g.E.Element.numbers s.args.low.now (order * order)

    abbrev high : List ℤ
    high = g.E.Element.numbers s.args.high.now (order * order)

    -- what check 2 asks of the act's own buffers, and of all
    abbrev own : Bool
    own = bracket_lengths g.E.Element.taken order s.args.low.now s.args.high.now s.args.vector.now

    abbrev sizes : Bool
    sizes = own && s.args.others

    -- the buffer with a bracket
    abbrev given : Bracketing → Bracketed (List g.row.E.Denot)
    given b = stored g.E.Element.elements order b s.args.vector.now

    -- what an answer means
    abbrev Means : Bracketed (List g.row.E.Denot) → Type 0
    Means j = Meaning s.args.n low high j.stiffness (g.E.Element.numbers j.vector order)

    means : (j : Bracketed (List g.row.E.Denot)) → j ≡ given (bracketing s.args.n sizes low high) →
        record { exact : j ≡ given (bracketing s.args.n sizes low high); meaning : Means j }
    means = exactly Means (act-means s.args.n sizes low high g.E.Element.laws s.args.vector.now)

  sized : (c : After-sizes_ok-own g) → c.sizes_ok-own.result ≡ own (goal.at.After-sizes_ok-own g c).Start
  sized c =
      rw (c.taken-table.ensures, c.taken-size.ensures, (order-passed c.ranges.n c.in_ok-m.ensures).0) at c.sizes_ok-own.ensures

  found : (c : Joined-own g) → c.if-own.sized ≡ sizes (goal.at.Joined-own g c).Start
  found c =
      let z = sized (goal.at.Joined-own g c).After-sizes_ok-own in
      elim c.if-own.branch [
        | then-own w ↦ rw (← z, w.if-own.true) w.sized-is
        | else-own w ↦ rw (← z, w.if-own.false) (w.sized-is ∙ w.if-own.false)
      ]

  -- the door, with what it found
  came : (c : After-enter g) → let s = (goal.at.After-enter g c).Start in
      Entered s.args.n (sizes s) true (low s) (high s) c.enter.result c.enter.new.l c.enter.new.u
  came c = rw (clean c.ranges.n, found (goal.at.After-enter g c).Joined-own) at c.enter.ensures

pub returns-in_err-m : goal.returns-in_err-m
unfolding bracket_act bracketing
returns-in_err-m g c =
    let s = (goal.at.returns-in_err-m g c).Start in
    let o = order-refused c.ranges.n c.in_err-m.ensures in
    means g s _ (rw (handed_on c.from_residual.ensures.1, o.0) (ap (given g s) (no-order _ _ _ _ _ refused _ o.1)))

pub overflow_mul-m : goal.overflow_mul-m
overflow_mul-m g c = record { fits = omega (arith, order_fits _ (order-passed c.ranges.n c.in_ok-m.ensures).0) }

pub taken-table-requires : goal.taken-table-requires
taken-table-requires g c = omega (arith, order_fits _ (order-passed c.ranges.n c.in_ok-m.ensures).0)

pub taken-size-requires : goal.taken-size-requires
taken-size-requires g c = omega (arith, order_small c.args.n, (order-passed c.ranges.n c.in_ok-m.ensures).0)

pub returns-then-not-sized : goal.returns-then-not-sized
unfolding bracket_act bracketing
returns-then-not-sized g c =
    let p = goal.at.returns-then-not-sized g c in
    let s = p.Start in
    let m = order-positive _ (order-passed c.ranges.n c.in_ok-m.ensures).1 in
    let z = sym (found g p.Joined-own) ∙ c.if-not-sized.true in
    means g s _ (ap (given g s) (no-sizes _ _ _ _ _ refused _ (λ e. omega (arith, m, e)) z))

pub enter-requires : goal.enter-requires
enter-requires g c =
    let s = (goal.at.enter-requires g c).Start in
    let f = sym (found g (goal.at.enter-requires g c).Joined-own) in
    ((λ e. rw (clean c.ranges.n) (let z = sizes-of _ _ _ _ _ (and_left (own g s) s.args.others (f ∙ e)) in (z.0, z.1))), refl, refl)

pub returns-in_err-enter : goal.returns-in_err-enter
unfolding bracket_act bracketing
returns-in_err-enter g c =
    let s = (goal.at.returns-in_err-enter g c).Start in
    let d = came g (goal.at.returns-in_err-enter g c).After-enter in
    means g s _
    (rw (handed_on c.from_residual-in_err-enter.ensures.1) (ap (given g s) (entered-refused _ _ _ _ _ refused _ d c.in_err-enter.was)))

pub invariant_of-bounds : goal.invariant_of-bounds
invariant_of-bounds g c =
    let d = came g (goal.at.invariant_of-bounds g c).After-enter in
    rw (order-passed c.ranges.n c.in_ok-m.ensures).0 (record { checked = (d.held c.in_ok-enter.was).tables })

pub bracket_bounds-requires : goal.bracket_bounds-requires
bracket_bounds-requires g c =
    let d = came g (goal.at.bracket_bounds-requires g c).After-enter in
    let s = (goal.at.bracket_bounds-requires g c).Start in
    let b = came-through _ _ _ _ _ d c.in_ok-enter.was in
    let z = sizes-of _ _ _ _ _ (and_left (own g s) s.args.others b.sizes) in
    rw (order-passed c.ranges.n c.in_ok-m.ensures).0 (order-positive _ b.ordered, z.2)

pub returns : goal.returns
unfolding bracket_act bracketing
returns g c =
    let s = (goal.at.returns g c).Start in
    let d = came g (goal.at.returns g c).After-enter in
    let q = c.in_ok-enter.was in
    let h = d.held q in
    means g s _
    ((rw ((order-passed c.ranges.n c.in_ok-m.ensures).0, h.low, h.high) at c.bracket_bounds.ensures)
    ∙ ap (given g s) (entered-passed _ _ _ _ _ refused _ d q))
