use mathlib.Core.Path.{◌≡◌, refl, sym, ◌∙◌}
use mathlib.Core.Bool.{Bool, true, ◌&&◌}
use mathlib.Core.List.{List, ◌++◌}
use Prim.Native.Nat.{ℕ, ◌*◌}
use native.Mathlib.Omega.{arith}
use lib.IntN.{ℤ, pos}
use lib.ListN.{length, take, drop, replicate}
use Rattle.std.specs.Prelude.{Result, Ok, Err}
use Rattle.integers.proofs.Machine.{clean}
use Rattle.tables.specs.Ranges.{table_room}
use Rattle.tables.specs.Checks.{order_of}
use Rattle.tables.specs.Entering.{Entered}
use Rattle.tables.specs.declared.Refusal.{Refusal}
use Rattle.tables.proofs.Checks.{sizes-of, and_left, and_by}
use Rattle.tables.proofs.Answers.{exactly, handed_on}
use Rattle.tables.proofs.Admission.{Padded, loaded, loaded_room, padded-at, order_fits, order-positive}
use Rattle.tables.proofs.Admission.{no-order, no-sizes, order-passed, order-refused, came-through, entered-refused, entered-passed}
use Rattle.residual.specs.FactorTest.{factor_lengths, factor_tested, factor_act, Meaning}
use Rattle.residual.specs.declared.factor_test.FactorAnswer.{FactorAnswer}
use Rattle.residual.proofs.Meaning.{tested-means}
use Rattle.residual.proofs.factor_test.test_factor_among.Given.{Over}
use Rattle.residual.proofs.factor_test.test_factor_among.Goals as goal
use Rattle.residual.proofs.factor_test.test_factor_among.Goals.{Start, After-sizes_ok-own, Joined-own, After-enter, After-load}

module _ (g : Over) where
  -- the numbers that the buffers hold
  module _ (s : Start g) where
    abbrev room : ℕ
    room = order_of s.args.n * order_of s.args.n

    abbrev low : List ℤ
    low = g.E.Element.numbers s.args.low.now room

    abbrev high : List ℤ
    high = g.E.Element.numbers s.args.high.now room

    abbrev offered : List ℤ
    offered = g.E.Element.numbers s.args.factor.now room

    -- what check 2 asks of the act's own buffers, and of all
    abbrev own : Bool
    own = factor_lengths g.E.Element.taken (order_of s.args.n) s.args.low.now s.args.high.now s.args.factor.now

    abbrev sizes : Bool
    sizes = own && s.args.others

    -- what an answer means
    abbrev act : Result FactorAnswer Refusal
    act = factor_act g.E.Element.numbers s.args.n sizes s.args.low.now s.args.high.now s.args.factor.now

    means : (r : Result FactorAnswer Refusal) → r ≡ act → record { exact : r ≡ act; meaning : Meaning s.args.n low high offered r }
    unfolding factor_act
    means = exactly (Meaning s.args.n low high offered) (tested-means s.args.n low high offered sizes)

  -- what check 2 finds
  sized : (c : After-sizes_ok-own g) → c.sizes_ok-own.result ≡ own (goal.at.After-sizes_ok-own g c).Start
  sized c = rw (c.taken-table.ensures, (order-passed c.ranges.n c.in_ok-m.ensures).0) at c.sizes_ok-own.ensures

  found : (c : Joined-own g) → c.if-own.sized ≡ sizes (goal.at.Joined-own g c).Start
  found c =
      rw (sized (goal.at.Joined-own g c).After-sizes_ok-own) at (and_by c.if-own.sized c.if-own.sized-true c.if-own.sized-false)

  -- the door, with what it found
  came : (c : After-enter g) → let s = (goal.at.After-enter g c).Start in
      Entered s.args.n (sizes s) true (low s) (high s) c.enter.result c.enter.new.l c.enter.new.u
  came c = rw (clean c.ranges.n, found (goal.at.After-enter g c).Joined-own) at c.enter.ensures

pub returns-in_err-m : goal.returns-in_err-m
unfolding factor_act factor_tested
returns-in_err-m g c =
    let o = order-refused c.ranges.n c.in_err-m.ensures in
    means g (goal.at.returns-in_err-m g c).Start _ (rw (handed_on c.from_residual.ensures.1, o.0) (no-order _ _ _ _ _ Err _ o.1))

pub overflow_mul-m : goal.overflow_mul-m
overflow_mul-m g c = record { fits = omega (arith, order_fits _ (order-passed c.ranges.n c.in_ok-m.ensures).0) }

pub taken-table-requires : goal.taken-table-requires
taken-table-requires g c = omega (arith, order_fits _ (order-passed c.ranges.n c.in_ok-m.ensures).0)

pub returns-then-not-sized : goal.returns-then-not-sized
unfolding factor_act factor_tested
returns-then-not-sized g c =
    let o = (order-passed c.ranges.n c.in_ok-m.ensures).1 in
    let e = sym (found g (goal.at.returns-then-not-sized g c).Joined-own) ∙ c.if-not-sized.true in
    means g (goal.at.returns-then-not-sized g c).Start _ (no-sizes _ _ _ _ _ Err _ (λ z. omega (arith, z, order-positive _ o)) e)

pub enter-requires : goal.enter-requires
enter-requires g c = (
  (λ s. rw (clean c.ranges.n) (
      let z = sizes-of _ _ _ _ _ (sym (sized g (goal.at.enter-requires g c).After-sizes_ok-own) ∙ (c.if-own.sized-true s).0) in (z.0, z.1)
      )),
  refl,
  refl,
)

pub returns-in_err-enter : goal.returns-in_err-enter
unfolding factor_act factor_tested
returns-in_err-enter g c =
    let s = (goal.at.returns-in_err-enter g c).Start in
    let d = came g (goal.at.returns-in_err-enter g c).After-enter in
    means g s _ (rw (handed_on c.from_residual-in_err-enter.ensures.1) (entered-refused _ _ _ _ _ Err _ d c.in_err-enter.was))

pub overflow_mul-m-2 : goal.overflow_mul-m-2
overflow_mul-m-2 g c = record { fits = omega (arith, order_fits _ (order-passed c.ranges.n c.in_ok-m.ensures).0) }

pub load-requires : goal.load-requires
load-requires g c =
    let o = (order-passed c.ranges.n c.in_ok-m.ensures).0 in
    let b = came-through _ _ _ _ _ (came g (goal.at.load-requires g c).After-enter) c.in_ok-enter.was in
    let z = sizes-of _ _ _ _ _ (and_left _ _ b.sizes) in
    rw o (omega (arith, z.2), order_fits _ refl)

-- the factor stands in its scratch table
module _ (g : Over) (c : After-load g) (q : c.enter.result ≡ Ok tt) where
  abbrev entry : Start g
  entry = (goal.at.After-load g c).Start

  whole : length (offered g entry) ≡ room g entry
  whole =
      let b = came-through _ _ _ _ _ (came g (goal.at.After-load g c).After-enter) q in
      g.E.Element.laws.numbers_whole _ _ (sizes-of _ _ _ _ _ (and_left _ _ b.sizes)).2

  held : c.load.new.out ≡ take (room g entry) (offered g entry) ++ drop (room g entry) (replicate table_room (pos 0))
  held = rw (order-passed c.ranges.n c.in_ok-m.ensures).0 at c.load.ensures

  factor : Padded (offered g entry) c.load.new.out
  factor = loaded table_room _ refl whole (order_fits _ refl) held

  factor_room : length c.load.new.out ≡ table_room
  factor_room = loaded_room table_room _ refl whole (order_fits _ refl) held

pub answer-requires : goal.answer-requires
answer-requires g c =
    let d = came g (goal.at.answer-requires g c).After-enter in
    let q = c.in_ok-enter.was in
    let r = factor_room g (goal.at.answer-requires g c).After-load q in
    rw (order-passed c.ranges.n c.in_ok-m.ensures).0
    ((d.held q).tables, d.rooms, omega (arith, r, order_fits c.args.n refl), order-positive _ (came-through _ _ _ _ _ d q).ordered)

pub returns : goal.returns
unfolding factor_act factor_tested
returns g c =
    let o = (order-passed c.ranges.n c.in_ok-m.ensures).0 in
    let d = came g (goal.at.returns g c).After-enter in
    let q = c.in_ok-enter.was in
    let h = d.held q in
    let f = padded-at (factor g (goal.at.returns g c).After-load q) (order_of c.args.n) in
    means g (goal.at.returns g c).Start _ ((rw (o, h.low, h.high, f) at c.answer.ensures) ∙ entered-passed _ _ _ _ _ Err _ d q)
