-- 1 and 2, and then the file of the problem of the numbers that the buffers hold.
use Rattle.std.proofs.Common.{◌≡◌, refl, sym, ◌∙◌, Bool, true, false, List, ℕ, ◌*◌, ◌≤◌, ℤ, length, arith}
use Rattle.integers.proofs.Machine.{clean}
use Rattle.tables.specs.Ranges.{greatest_order}
use Rattle.tables.specs.Checks.{order_ok, order_of}
use Rattle.tables.specs.Problem.{problem_of, lengths_of}
use Rattle.tables.specs.Elements.{BuffersWhole}
use Rattle.tables.specs.declared.Refusal.{Refusal}
use Rattle.tables.specs.declared.Refusal.TheVariants.{Order, Length}
use Rattle.tables.specs.Checks.{Checked}
use Rattle.std.specs.Prelude.{Err}
use Rattle.tables.specs.declared.problem.Problem.{Problem}
use Rattle.tables.proofs.Answers.{exactly, handed_on}
use Rattle.tables.proofs.Admission.{order_small, order_fits, order-positive, order-passed, order-refused}
use Rattle.summary.specs.Problems.{file_size, padded, ProblemRooms}
use Rattle.summary.proofs.Padding.{Sized, padded_rooms}
use Rattle.writer.specs.Required.{Lengthy}
use Rattle.writer.specs.Writing.{Written, checked_writing, write_sizes, write_act}
use Rattle.writer.proofs.Acting.{WriteSized, write-sizes-of, writing-no-order, writing-no-sizes, writing-sized, writing-padded, Means}
use Rattle.writer.proofs.Acting.{writing-means}
use Rattle.writer.proofs.write.write.Given.{Over}
use Rattle.writer.proofs.write.write.Goals as goal
use Rattle.writer.proofs.write.write.Goals.{Start, In_ok-m, After-write_sized, After-problem_of-problem}

-- a call's buffers
module _ {A : Type 0} {taken : ℕ → ℕ} {numbers : List A → ℕ → List ℤ} {elements : List ℤ → ℕ → List A}
    (w : BuffersWhole taken numbers elements) (n : ℤ) (l u a b : List A) (α : ℤ) (c : List A) (s : List ℕ) where
  abbrev k : ℕ
  k = order_of n

  -- the problem of the numbers that they hold
  abbrev posed : Problem
  posed = problem_of k (numbers l (k * k)) (numbers u (k * k)) (numbers a k) (numbers b k) α (numbers c k)

  -- what check 2 finds
  abbrev sizes : Bool
  sizes =
      write_sizes k (record { table = taken (k * k); vector = taken k }) (lengths_of (length l) (length u) (length a) (length b)) (length c)
      (length s)

  lent : sizes ≡ true →
      WriteSized k (record { table = taken (k * k); vector = taken k }) (lengths_of (length l) (length u) (length a) (length b)) (length c)
      (length s)
  lent e = write-sizes-of _ _ _ _ _ e

  exact_sizes : sizes ≡ true → Sized posed
  exact_sizes e =
      let z = lent e in
      record {
        low = w.numbers_whole l (k * k) z.low;
        high = w.numbers_whole u (k * k) z.high;
        linear_low = w.numbers_whole a k z.linear_low;
        linear_high = w.numbers_whole b k z.linear_high;
        centre = w.numbers_whole c k z.centre;
      }

  -- what an answer means
  shown : Means posed (write_act taken numbers n l u a b α c s)
  unfolding write_act
  shown = writing-means n sizes posed s refl exact_sizes

  -- of an answer r, with the buffer as it is left
  abbrev Right : Checked → List ℕ → Type 0
  Right r f =
      record {
        exact : ◌≡◌ {A = Written} (record { answer = r; file = f }) (write_act taken numbers n l u a b α c s);
        meaning : Means posed (record { answer = r; file = f });
      }

  right : {r : Checked} {f : List ℕ} → ◌≡◌ {A = Written} (record { answer = r; file = f }) (write_act taken numbers n l u a b α c s) →
      Right r f
  right e = exactly (Means posed) shown _ e

  no_order : {r : Refusal} → (r ≡ Order) × (order_of n ≡ 0) → Right (Err r) s
  unfolding write_act
  no_order z = rw z.0 (right (writing-no-order n sizes posed s z.1))

  no_sizes : order_ok n ≡ true → sizes ≡ false → Right (Err Length) s
  unfolding write_act
  no_sizes z e = right (writing-no-sizes n sizes posed s (λ q. absurd (omega (arith, order-positive n z))) e)

  checked : {r : Checked} {f : List ℕ} → order_ok n ≡ true → sizes ≡ true →
      ◌≡◌ {A = Written} (record { answer = r; file = f }) (checked_writing (padded posed) s) → Right r f
  unfolding write_act
  checked z e q = right (q ∙ writing-padded posed s (exact_sizes e) ∙ writing-sized n sizes posed s z e refl)

  -- the code's order m
  module _ {m : ℕ} (o : m ≡ order_of n) where
    lengthy : sizes ≡ true → Lengthy taken m l u a b c
    lengthy e =
        let z = lent e in
        rw o
        (record {
          order = order_small n;
          low = omega (arith, z.low);
          high = omega (arith, z.high);
          from = omega (arith, z.linear_low);
          to = omega (arith, z.linear_high);
          centre = omega (arith, z.centre);
        })

    file_fits : sizes ≡ true → {p : Problem} → p ≡ padded posed → ProblemRooms p × (length s ≡ file_size p.constraint.order)
    file_fits e q = rw q (padded_rooms posed (exact_sizes e) (order_small n), (lent e).file)

module _ (g : Over) where
  -- what check 2 finds of a call
  abbrev found : Start g → Bool
  found s =
      let a = s.args in
      sizes g.E.Element.laws a.n a.low.now a.high.now a.from.now a.to.now a.limit a.centre.now a.file.now

  order : (c : In_ok-m g) → c.in_ok-m.m ≡ order_of c.args.n
  order c = (order-passed c.ranges.n c.in_ok-m.ensures).0

  small : (c : In_ok-m g) → c.in_ok-m.m ≤ greatest_order
  small c = omega (arith, order_small c.args.n, order c)

  sized : (c : After-write_sized g) → found (goal.at.After-write_sized g c).Start ≡ c.write_sized.result
  sized c =
      sym (rw (c.lengths_of-lengths.ensures, c.taken.ensures, c.taken-2.ensures, order (goal.at.After-write_sized g c).In_ok-m)
      at c.write_sized.ensures)

  -- the problem, as it is loaded
  loaded : (c : After-problem_of-problem g) → let a = c.args in
      c.problem_of-problem.result
      ≡ padded (posed g.E.Element.laws a.n a.low.now a.high.now a.from.now a.to.now a.limit a.centre.now a.file.now)
  loaded c = rw (order (goal.at.After-problem_of-problem g c).In_ok-m, clean c.ranges.limit) at c.problem_of-problem.ensures

pub returns-in_err-m : goal.returns-in_err-m
returns-in_err-m g c =
    rw (handed_on c.from_residual.ensures.1)
    (no_order g.E.Element.laws _ _ _ _ _ _ _ _ (order-refused c.ranges.n c.in_err-m.ensures))

pub overflow_mul-m : goal.overflow_mul-m
overflow_mul-m g c = record { fits = omega (arith, order_fits _ (order g c)) }

pub taken-requires : goal.taken-requires
taken-requires g c = omega (arith, order_fits _ (order g c))

pub taken-requires-2 : goal.taken-requires-2
taken-requires-2 g c = omega (arith, small g (goal.at.taken-requires-2 g c).In_ok-m)

pub write_sized-requires : goal.write_sized-requires
write_sized-requires g c = small g (goal.at.write_sized-requires g c).In_ok-m

pub returns-then-not-write_sized : goal.returns-then-not-write_sized
returns-then-not-write_sized g c =
    let w = (goal.at.returns-then-not-write_sized g c).After-write_sized in
    no_sizes g.E.Element.laws _ _ _ _ _ _ _ _ (order-passed c.ranges.n c.in_ok-m.ensures).1 (sized g w ∙ c.if-not-write_sized.true)

pub problem_of-problem-requires : goal.problem_of-problem-requires
problem_of-problem-requires g c =
    let a = c.args in
    let o = goal.at.problem_of-problem-requires g c in
    lengthy g.E.Element.laws a.n a.low.now a.high.now a.from.now a.to.now a.limit a.centre.now a.file.now (order g o.In_ok-m)
    (sized g o.After-write_sized ∙ c.if-not-write_sized.false)

pub write_mended-requires : goal.write_mended-requires
write_mended-requires g c =
    let a = c.args in
    let o = goal.at.write_mended-requires g c in
    file_fits g.E.Element.laws a.n a.low.now a.high.now a.from.now a.to.now a.limit a.centre.now a.file.now (order g o.In_ok-m)
    (sized g o.After-write_sized ∙ c.if-not-write_sized.false) (loaded g o.After-problem_of-problem)

pub returns : goal.returns
returns g c =
    let a = c.args in
    let o = goal.at.returns g c in
    checked g.E.Element.laws a.n a.low.now a.high.now a.from.now a.to.now a.limit a.centre.now a.file.now
    (order-passed c.ranges.n c.in_ok-m.ensures).1
    (sized g o.After-write_sized ∙ c.if-not-write_sized.false) (rw (loaded g o.After-problem_of-problem) at c.write_mended.ensures)
