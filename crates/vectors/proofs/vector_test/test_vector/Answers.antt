use mathlib.Core.Path.{◌≡◌, refl, sym, ◌∙◌}
use mathlib.Core.Bool.{Bool, true}
use Prim.Native.Nat.{ℕ, ◌*◌}
use native.Mathlib.Omega.{arith}
use lib.IntN.{ℤ}
use mathlib.Core.List.{List}
use lib.ListN.{length}
use Rattle.std.specs.Prelude.{Result, Err}
use Rattle.integers.proofs.Machine.{clean}
use Rattle.tables.specs.Ranges.{greatest_order}
use Rattle.tables.specs.Checks.{order_of}
use Rattle.tables.specs.Entering.{Entered}
use Rattle.tables.specs.declared.Refusal.{Refusal}
use Rattle.tables.proofs.Checks.{sizes-of}
use Rattle.tables.proofs.Answers.{exactly, handed_on}
use Rattle.tables.proofs.Admission.{loaded, padded-nth, order_small, order_fits}
use Rattle.tables.proofs.Admission.{no-order, no-sizes, order-positive, order-passed, order-refused, came-through, entered-refused, entered-passed}
use Rattle.vectors.specs.VectorTest.{vector_sizes, vector_tested, vector_act, Meaning}
use Rattle.vectors.proofs.Answers.{tested-means}
use Rattle.vectors.proofs.vector_test.test_vector.Given.{Over}
use Rattle.vectors.proofs.vector_test.test_vector.Goals as goal
use Rattle.vectors.proofs.vector_test.test_vector.Goals.{Start, After-sizes_ok-sized, After-enter}

module _ (g : Over) where
  -- the numbers that the buffers hold
  module _ (s : Start g) where
    abbrev order : ℕ
    order = order_of s.args.n

    abbrev low : List ℤ
    low = g.E.Element.numbers s.args.low.now (order * order)

    abbrev high : List ℤ
    high = g.E.Element.numbers s.args.high.now (order * order)

    abbrev offered : List ℤ
    offered = g.E.Element.numbers s.args.x.now order

    -- what check 2 asks
    abbrev sizes : Bool
    sizes = vector_sizes g.E.Element.taken order (length s.args.low.now) (length s.args.high.now) (length s.args.x.now)

    -- what an answer means
    means : (r : Result Bool Refusal) → r ≡ vector_act g.E.Element.taken g.E.Element.numbers s.args.n s.args.low.now s.args.high.now s.args.x.now →
        record {
          exact : r ≡ vector_act g.E.Element.taken g.E.Element.numbers s.args.n s.args.low.now s.args.high.now s.args.x.now;
          meaning : Meaning r order low high offered;
        }
    unfolding vector_act
    means = exactly (λ r. Meaning r order low high offered) (tested-means s.args.n sizes low high offered)

  sized : (c : After-sizes_ok-sized g) → c.sizes_ok-sized.result ≡ sizes (goal.at.After-sizes_ok-sized g c).Start
  sized c =
      rw (c.taken-table.ensures, c.taken-vector.ensures, (order-passed c.ranges.n c.in_ok-m.ensures).0) at c.sizes_ok-sized.ensures

  -- the door, with what it found
  came : (c : After-enter g) → let s = (goal.at.After-enter g c).Start in
      Entered s.args.n (sizes s) true (low s) (high s) c.enter.result c.enter.new.l c.enter.new.u
  came c = rw (clean c.ranges.n, sized (goal.at.After-enter g c).After-sizes_ok-sized) at c.enter.ensures

pub returns-in_err-m : goal.returns-in_err-m
unfolding vector_act vector_tested
returns-in_err-m g c =
    let o = order-refused c.ranges.n c.in_err-m.ensures in
    means g (goal.at.returns-in_err-m g c).Start _ (rw (handed_on c.from_residual.ensures.1, o.0) (no-order _ _ _ _ _ Err _ o.1))

pub overflow_mul-m : goal.overflow_mul-m
overflow_mul-m g c = record { fits = omega (arith, order_fits _ (order-passed c.ranges.n c.in_ok-m.ensures).0) }

pub taken-table-requires : goal.taken-table-requires
taken-table-requires g c = omega (arith, order_fits _ (order-passed c.ranges.n c.in_ok-m.ensures).0)

pub taken-vector-requires : goal.taken-vector-requires
taken-vector-requires g c = omega (arith, order_small c.args.n, (order-passed c.ranges.n c.in_ok-m.ensures).0)

pub returns-then-not-sized : goal.returns-then-not-sized
unfolding vector_act vector_tested
returns-then-not-sized g c =
    let o = (order-passed c.ranges.n c.in_ok-m.ensures).1 in
    let e = sym (sized g (goal.at.returns-then-not-sized g c).After-sizes_ok-sized) ∙ c.if-not-sized.true in
    means g (goal.at.returns-then-not-sized g c).Start _ (no-sizes _ _ _ _ _ Err _ (λ z. omega (arith, z, order-positive _ o)) e)

pub enter-requires : goal.enter-requires
enter-requires g c = (
  (λ s. rw (clean c.ranges.n) (let z = sizes-of _ _ _ _ _ (sym (sized g (goal.at.enter-requires g c).After-sizes_ok-sized) ∙ s) in (z.0, z.1))),
  refl,
  refl,
)

pub returns-in_err-enter : goal.returns-in_err-enter
unfolding vector_act vector_tested
returns-in_err-enter g c =
    let s = (goal.at.returns-in_err-enter g c).Start in
    let d = came g (goal.at.returns-in_err-enter g c).After-enter in
    means g s _ (rw (handed_on c.from_residual-in_err-enter.ensures.1) (entered-refused _ _ _ _ _ Err _ d c.in_err-enter.was))

pub load-requires : goal.load-requires
load-requires g c =
    let d = came g (goal.at.load-requires g c).After-enter in
    let z = sizes-of _ _ _ _ _ (came-through _ _ _ _ _ d c.in_ok-enter.was).sizes in
    rw (order-passed c.ranges.n c.in_ok-m.ensures).0 (omega (arith, z.2), order_small _)

pub invariant_of-bounds : goal.invariant_of-bounds
invariant_of-bounds g c =
    let d = came g (goal.at.invariant_of-bounds g c).After-enter in
    rw (order-passed c.ranges.n c.in_ok-m.ensures).0 (record { checked = (d.held c.in_ok-enter.was).tables })

pub returns : goal.returns
unfolding vector_act vector_tested
returns g c =
    let s = (goal.at.returns g c).Start in
    let o = (order-passed c.ranges.n c.in_ok-m.ensures).0 in
    let d = came g (goal.at.returns g c).After-enter in
    let q = c.in_ok-enter.was in
    let h = d.held q in
    let z = sizes-of _ _ _ _ _ (came-through _ _ _ _ _ d q).sizes in
    let v = loaded greatest_order (offered g s) refl (g.E.Element.laws.numbers_whole _ _ z.2) (order_small _) (rw o at c.load.ensures) in
    means g s _ ((rw (o, h.low, h.high, padded-nth v) at c.answer.ensures) ∙ entered-passed _ _ _ _ _ Err _ d q)
