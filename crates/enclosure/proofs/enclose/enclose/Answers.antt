use mathlib.Core.Path.{◌≡◌, refl, sym, ◌∙◌}
use mathlib.Core.Bool.{Bool, true, ◌&&◌}
use mathlib.Core.List.{List}
use Prim.Native.Nat.{ℕ, ◌+◌, ◌*◌, ◌≤◌}
use native.Mathlib.Omega.{arith}
use lib.IntN.{ℤ}
use lib.ListN.{length}
use Rattle.std.specs.Prelude.{Ok}
use Rattle.integers.proofs.Machine.{clean}
use Rattle.tables.specs.Ranges.{greatest_order}
use Rattle.tables.specs.Checks.{order_of, terms_within, first_refusal}
use Rattle.tables.specs.Problem.{constraint_of, lengths_of, constraint_ends, constraint_entered}
use Rattle.tables.specs.Entering.{Entered}
use Rattle.tables.specs.declared.problem.Constraint.{Constraint}
use Rattle.tables.specs.declared.problem.Sizes.{Sizes}
use Rattle.tables.proofs.Answers.{handed_on}
use Rattle.tables.proofs.Admission.{Behind, order_small, order_fits, order-positive, no-order, no-sizes, order-passed, order-refused}
use Rattle.tables.proofs.Admission.{came-through, entered-sized}
use Rattle.tables.proofs.Problems.{door-refused, ends-refused, constraint_passed}
use Rattle.enclosure.specs.Box.{refused, problem_box, boxing}
use Rattle.enclosure.specs.Act.{Loaded, box_sizes}
use Rattle.enclosure.proofs.ActMeanings.{act_by, act_answers}
use Rattle.enclosure.proofs.BoxCases.{BoxSized, box_sizes-of, centre-terms, limit-within}
use Rattle.enclosure.proofs.Loading.{loaded_fits, terms_same, terms-loaded, ends_same}
use Rattle.enclosure.proofs.enclose.enclose.Given.{Over}
use Rattle.enclosure.proofs.enclose.enclose.Goals as goal
use Rattle.enclosure.proofs.enclose.enclose.Goals.{Start, In_ok-m, After-box_sized-sized, After-sized_within-within}
use Rattle.enclosure.proofs.enclose.enclose.Goals.{After-enter, After-check_ends}

module _ (g : Over) where
  -- the numbers that the buffers hold
  module _ (s : Start g) where
    abbrev order : ℕ
    order = order_of s.args.n

    abbrev low : List ℤ
    low = g.E.Element.numbers s.args.low.now (order * order)

    abbrev high : List ℤ
    high = g.E.Element.numbers s.args.high.now (order * order)

    abbrev low_ends : List ℤ
    low_ends = g.E.Element.numbers s.args.from.now order

    abbrev high_ends : List ℤ
    high_ends = g.E.Element.numbers s.args.to.now order

    abbrev middle : List ℤ
    middle = g.E.Element.numbers s.args.centre.now order

    -- their constraint
    abbrev posed : Constraint
    posed = constraint_of order low high low_ends high_ends s.args.limit

    -- the sizes of their buffers
    abbrev called_for : Sizes
    called_for = record { table = g.E.Element.taken (order * order); vector = g.E.Element.taken order }

    -- what check 2 finds
    abbrev sizes : Bool
    sizes =
        box_sizes called_for (g.E.Element.taken (order + order))
        (lengths_of (length s.args.low.now) (length s.args.high.now) (length s.args.from.now) (length s.args.to.now))
        (length s.args.centre.now) (length s.args.sides.now)

    -- what check 3 finds beside the tables
    abbrev others : Bool
    others = terms_within order low_ends high_ends s.args.limit middle

    -- the buffers of a call whose sizes passed
    abbrev Lent : Type 0
    Lent =
        BoxSized called_for (g.E.Element.taken (order + order))
        (lengths_of (length s.args.low.now) (length s.args.high.now) (length s.args.from.now) (length s.args.to.now))
        (length s.args.centre.now) (length s.args.sides.now)

  ordered : (c : In_ok-m g) → c.in_ok-m.m ≡ order_of c.args.n
  ordered c = (order-passed c.ranges.n c.in_ok-m.ensures).0

  small : (c : In_ok-m g) → c.in_ok-m.m ≤ greatest_order
  small c = omega (arith, order_small c.args.n, ordered c)

  sized : (c : After-box_sized-sized g) → c.box_sized-sized.result ≡ sizes (goal.at.After-box_sized-sized g c).Start
  sized c =
      rw (
        c.lengths_of-lengths.ensures,
        c.taken.ensures,
        c.taken-2.ensures,
        c.taken-pairs.ensures,
        ordered (goal.at.After-box_sized-sized g c).In_ok-m,
      ) at c.box_sized-sized.ensures

  lent : (c : After-box_sized-sized g) → c.box_sized-sized.result ≡ true → Lent (goal.at.After-box_sized-sized g c).Start
  lent c e = box_sizes-of _ _ _ _ _ (sym (sized c) ∙ e)

  -- what was loaded
  module _ (c : After-sized_within-within g) where
    abbrev start : Start g
    start = (goal.at.After-sized_within-within g c).Start

    equal_order : c.in_ok-m.m ≡ order start
    equal_order = ordered (goal.at.After-sized_within-within g c).In_ok-m

    equal_sizes : c.box_sized-sized.result ≡ sizes start
    equal_sizes = sized (goal.at.After-sized_within-within g c).After-box_sized-sized

    low_loaded : Loaded (sizes start) (low_ends start) c.load_terms-a.result
    low_loaded = rw (equal_order, equal_sizes) at c.load_terms-a.ensures

    high_loaded : Loaded (sizes start) (high_ends start) c.load_terms-b.result
    high_loaded = rw (equal_order, equal_sizes) at c.load_terms-b.ensures

    middle_loaded : Loaded (sizes start) (middle start) c.load_terms-c.result
    middle_loaded = rw (equal_order, equal_sizes) at c.load_terms-c.ensures

    asked : c.sized_within-within.result ≡ (sizes start && others start)
    asked =
        (rw (equal_order, equal_sizes, clean c.ranges.limit) at c.sized_within-within.ensures)
        ∙ terms-loaded _ _ c.args.limit low_loaded high_loaded middle_loaded

    -- where both pass, so do the numbers that were loaded
    in-ranges : sizes start ≡ true → others start ≡ true →
        terms_within (order start) c.load_terms-a.result c.load_terms-b.result c.args.limit c.load_terms-c.result ≡ true
    in-ranges z o = terms_same _ _ _ _ _ _ _ c.args.limit (low_loaded.numbers z) (high_loaded.numbers z) (middle_loaded.numbers z) ∙ o

  -- the door, with what it found
  came : (c : After-enter g) → let s = (goal.at.After-enter g c).Start in
      Entered s.args.n (sizes s) (others s) (low s) (high s) c.enter.result c.enter.new.l c.enter.new.u
  came c =
      entered-sized _ _ _ _ _
      (rw (
        clean c.ranges.n,
        sized (goal.at.After-enter g c).After-box_sized-sized,
        asked (goal.at.After-enter g c).After-sized_within-within,
      ) at c.enter.ensures)

  passed : (c : After-enter g) → c.enter.result ≡ Ok tt → let s = (goal.at.After-enter g c).Start in
      Behind s.args.n (sizes s) (others s) (low s) (high s)
  passed c e = came-through _ _ _ _ _ (came c) e

  -- 16
  ends : (c : After-check_ends g) → c.check_ends.result ≡ first_refusal (constraint_ends (posed (goal.at.After-check_ends g c).Start))
  ends c =
      let z = (passed (goal.at.After-check_ends g c).After-enter c.in_ok-enter.was).sizes in
      let w = (goal.at.After-check_ends g c).After-sized_within-within in
      (rw (ordered (goal.at.After-check_ends g c).In_ok-m) at c.check_ends.ensures)
      ∙ ends_same _ _ _ _ _ ((low_loaded w).numbers z) ((high_loaded w).numbers z)

pub returns-in_err-m-clause-exact : goal.returns-in_err-m-clause-exact
unfolding boxing problem_box constraint_entered
returns-in_err-m-clause-exact g c =
    let o = order-refused c.ranges.n c.in_err-m.ensures in
    rw (handed_on c.from_residual.ensures.1, o.0) (act_by g.E.Element.laws c.args.n _ _ _ _ _ _ _ (no-order _ _ _ _ _ refused _ o.1))

pub overflow_mul-m : goal.overflow_mul-m
overflow_mul-m g c = record { fits = omega (arith, order_fits _ (ordered g c)) }

pub taken-requires : goal.taken-requires
taken-requires g c = omega (arith, order_fits _ (ordered g c))

pub taken-requires-2 : goal.taken-requires-2
taken-requires-2 g c = omega (arith, small g (goal.at.taken-requires-2 g c).In_ok-m)

pub overflow_add-m : goal.overflow_add-m
overflow_add-m g c = record { fits = omega (arith, small g (goal.at.overflow_add-m g c).In_ok-m) }

pub taken-pairs-requires : goal.taken-pairs-requires
taken-pairs-requires g c = omega (arith, small g (goal.at.taken-pairs-requires g c).In_ok-m)

pub returns-then-not-sized-clause-exact : goal.returns-then-not-sized-clause-exact
unfolding boxing problem_box constraint_entered
returns-then-not-sized-clause-exact g c =
    let z = sym (sized g (goal.at.returns-then-not-sized-clause-exact g c).After-box_sized-sized) ∙ c.if-not-sized.true in
    let m = order-positive _ (order-passed c.ranges.n c.in_ok-m.ensures).1 in
    act_by g.E.Element.laws c.args.n _ _ _ _ _ _ _ (no-sizes _ _ _ _ _ refused _ (λ e. omega (arith, m, e)) z)

pub load_terms-a-requires : goal.load_terms-a-requires
load_terms-a-requires g c =
    let o = goal.at.load_terms-a-requires g c in
    (small g o.In_ok-m, λ e. rw (ordered g o.In_ok-m) (lent g o.After-box_sized-sized e).linear_low)

pub load_terms-b-requires : goal.load_terms-b-requires
load_terms-b-requires g c =
    let o = goal.at.load_terms-b-requires g c in
    (small g o.In_ok-m, λ e. rw (ordered g o.In_ok-m) (lent g o.After-box_sized-sized e).linear_high)

pub load_terms-c-requires : goal.load_terms-c-requires
load_terms-c-requires g c =
    let o = goal.at.load_terms-c-requires g c in
    (small g o.In_ok-m, λ e. rw (ordered g o.In_ok-m) (lent g o.After-box_sized-sized e).centre)

pub sized_within-within-requires : goal.sized_within-within-requires
sized_within-within-requires g c = λ e.
    let m = small g (goal.at.sized_within-within-requires g c).In_ok-m in
    (loaded_fits m c.load_terms-a.ensures, loaded_fits m c.load_terms-b.ensures, loaded_fits m c.load_terms-c.ensures)

pub enter-requires : goal.enter-requires
enter-requires g c = (
  (λ e. rw (clean c.ranges.n) (let z = lent g (goal.at.enter-requires g c).After-box_sized-sized e in (z.low, z.high))),
  refl,
  refl,
)

pub returns-in_err-enter-clause-exact : goal.returns-in_err-enter-clause-exact
unfolding boxing problem_box constraint_entered
returns-in_err-enter-clause-exact g c =
    let s = (goal.at.returns-in_err-enter-clause-exact g c).Start in
    let d = came g (goal.at.returns-in_err-enter-clause-exact g c).After-enter in
    rw (handed_on c.from_residual-in_err-enter.ensures.1)
    (act_by g.E.Element.laws c.args.n _ _ _ _ _ _ _ (door-refused refused _ _ _ (posed g s) _ d c.in_err-enter.was))

pub check_ends-requires : goal.check_ends-requires
check_ends-requires g c =
    let m = small g (goal.at.check_ends-requires g c).In_ok-m in
    (loaded_fits m c.load_terms-a.ensures, loaded_fits m c.load_terms-b.ensures)

pub returns-in_err-check_ends-clause-exact : goal.returns-in_err-check_ends-clause-exact
unfolding boxing problem_box constraint_entered
returns-in_err-check_ends-clause-exact g c =
    let s = (goal.at.returns-in_err-check_ends-clause-exact g c).Start in
    let d = came g (goal.at.returns-in_err-check_ends-clause-exact g c).After-enter in
    let e = ends g (goal.at.returns-in_err-check_ends-clause-exact g c).After-check_ends in
    rw (handed_on c.from_residual-in_err-check_ends.ensures.1)
    (act_by g.E.Element.laws c.args.n _ _ _ _ _ _ _
    (ends-refused refused _ _ _ (posed g s) _ d c.in_ok-enter.was (sym e ∙ c.in_err-check_ends.was)))

pub invariant_of-bounds : goal.invariant_of-bounds
invariant_of-bounds g c =
    let d = came g (goal.at.invariant_of-bounds g c).After-enter in
    rw (ordered g (goal.at.invariant_of-bounds g c).In_ok-m) (record { checked = (d.held c.in_ok-enter.was).tables })

pub invariant_of-problem : goal.invariant_of-problem
invariant_of-problem g c =
    let o = goal.at.invariant_of-problem g c in
    let w = o.After-sized_within-within in
    let b = passed g o.After-enter c.in_ok-enter.was in
    let m = order_small c.args.n in
    rw (ordered g o.In_ok-m) (record {
      terms = centre-terms _ _ _ _ _ (in-ranges g w b.sizes b.within) m (loaded_fits m (low_loaded g w)) (loaded_fits m (high_loaded g w))
          (loaded_fits m (middle_loaded g w));
    })

pub enclose_centred-requires : goal.enclose_centred-requires
enclose_centred-requires g c =
    let o = goal.at.enclose_centred-requires g c in
    let b = passed g o.After-enter c.in_ok-enter.was in
    rw (ordered g o.In_ok-m, clean c.ranges.limit) (limit-within _ _ _ _ _ b.within, (box_sizes-of _ _ _ _ _ b.sizes).sides)

pub returns : goal.returns
unfolding boxing problem_box constraint_entered
returns g c =
    let o = goal.at.returns g c in
    let d = came g o.After-enter in
    let q = c.in_ok-enter.was in
    let h = d.held q in
    let z = (passed g o.After-enter q).sizes in
    let w = o.After-sized_within-within in
    let e = ends g o.After-check_ends in
    act_answers g.E.Element.laws c.args.n _ _ _ _ _ _ _ _
    (rw (
      ordered g o.In_ok-m,
      h.low,
      h.high,
      (low_loaded g w).numbers z,
      (high_loaded g w).numbers z,
      (middle_loaded g w).numbers z,
      clean c.ranges.limit,
    ) at c.enclose_centred.ensures)
    (constraint_passed refused _ _ _ (posed g o.Start) _ d q (sym e ∙ c.in_ok-check_ends.was))
