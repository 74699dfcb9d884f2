-- Laws of problems: the sizes of their buffers, and the door of an act on a constraint.
use mathlib.Core.Path.{◌≡◌, refl, sym, ap, ◌∙◌, subst}
use mathlib.Core.Bool.{Bool, true}
use mathlib.Core.List.{List, ◌++◌, append_assoc}
use lib.Dec.{eqb}
use Prim.Native.Nat.{◌*◌, ◌≤◌}
use lib.IntN.{ℤ}
use lib.ListN.{length}
use borrow.Author.Tests.{eqb-true}
use Rattle.integers.specs.Numbers.{min_ℤ, max_ℤ}
use Rattle.tables.specs.Mending.{Symmetric}
use Rattle.tables.specs.Checks.{Check, sizes_ok, order_ok, order_of, entry_checks, bounds_checks, first_refusal}
use Rattle.tables.specs.Answers.{after}
use Rattle.tables.specs.Entering.{Entered, entered}
use Rattle.tables.specs.Problem.{constraint_sized, problem_within, constraint_ends, problem_checks, constraint_entered, mended_problem}
use Rattle.tables.specs.declared.Refusal.{Refusal}
use Rattle.tables.specs.Checks.{Checked}
use Rattle.std.specs.Prelude.{Ok, Err}
use Rattle.tables.specs.declared.problem.Constraint.{Constraint}
use Rattle.tables.specs.declared.problem.Problem.{Problem}
use Rattle.tables.specs.declared.problem.Sizes.{Sizes}
use Rattle.tables.specs.declared.problem.Lengths.{Lengths}
use Rattle.tables.proofs.Checks.{sizes-of, and_left, and_right, more-checks, no-more-checks}
use Rattle.tables.proofs.MendedTables.{greater_pairing, smaller_pairing, symmetric_mended, mended_twice, both_symmetric}
use Rattle.tables.proofs.Answers.{after-refused, after-passed, after-means, prefix_passed}
use Rattle.tables.proofs.Admission.{Behind, entry-passes, bounds-mended, entered-refused, entered-passed, entered-means}

-- each buffer has its size
pub constraint_sizes-of : (z : Sizes) (b : Lengths) → constraint_sized z b ≡ true →
    (b.bounds.low ≡ z.table) × (b.bounds.high ≡ z.table) × (b.linear.low ≡ z.vector) × (b.linear.high ≡ z.vector)
unfolding constraint_sized
constraint_sizes-of z b e =
    let three = sizes_ok z.table z.vector b.bounds.low b.bounds.high b.linear.low in
    let s = sizes-of _ _ _ _ _ (and_left three (eqb b.linear.high z.vector) e) in
    (s.0, s.1, s.2, eqb-true _ _ (and_right three (eqb b.linear.high z.vector) e))

-- ---- an act on a constraint, behind checks 1 to 5 and 16
module _ {A : Type 0} (refused : Refusal → A) (n : ℤ) (sized others : Bool) (c : Constraint) (a : A) where
  module _ {r : Checked} {l u : List ℤ} (e : Entered n sized others c.low c.high r l u) where
    pub door-refused : {k : Refusal} → r ≡ Err k → refused k ≡ constraint_entered refused n sized others c a
    unfolding constraint_entered
    door-refused q = entered-refused n sized others _ _ refused _ e q

    pub ends-refused : {k : Refusal} → r ≡ Ok tt → first_refusal (constraint_ends c) ≡ Err k → refused k ≡ constraint_entered refused n sized others c a
    unfolding constraint_entered
    ends-refused {k} q f = after-refused refused k a f ∙ entered-passed n sized others _ _ refused _ e q

    pub constraint_passed : r ≡ Ok tt → first_refusal (constraint_ends c) ≡ Ok tt → a ≡ constraint_entered refused n sized others c a
    unfolding constraint_entered
    constraint_passed q f = after-passed refused a f ∙ entered-passed n sized others _ _ refused _ e q

  -- what holds of each refusal, and of the act behind the door, holds of the whole
  pub constraint_means : (P : A → Type 0) → ((r : Refusal) → P (refused r)) → (Behind n sized others c.low c.high → P a) →
      P (constraint_entered refused n sized others c a)
  unfolding constraint_entered
  constraint_means P f g = entered-means n sized others _ _ refused _ P f (λ b. after-means refused _ a P f (λ q. g b))

-- ---- the door of a problem asks 1 and 2 and then what a file's problem is asked, in the same order
after_both : {A : Type 0} (refused : Refusal → A) (cs ds : List Check) (a : A) →
    after refused (first_refusal (cs ++ ds)) a ≡ after refused (first_refusal cs) (after refused (first_refusal ds) a)
after_both refused cs ds a = go (first_refusal cs) refl
  where
    go : (k : Checked) → first_refusal cs ≡ k → after refused (first_refusal (cs ++ ds)) a ≡ after refused (first_refusal cs) (after refused (first_refusal ds) a)
    go (Ok tt) e = ap (λ (k : Checked). after refused k a) (more-checks cs ds e) ∙ after-passed refused _ e
    go (Err r) e = sym (after-refused refused r a (no-more-checks cs ds r e)) ∙ after-refused refused r _ e

pub problem-door : {A : Type 0} (refused : Refusal → A) (n : ℤ) (sized : Bool) (p : Problem) (a : A) → p.constraint.order ≡ order_of n →
    constraint_entered refused n sized (problem_within p) p.constraint a ≡ after refused (first_refusal (entry_checks n sized ++ problem_checks p)) a
unfolding constraint_entered entered
problem-door refused n sized p a e =
    let c = p.constraint in
    let bounds = bounds_checks (problem_within p) c.order c.low c.high in
    rw (← e) (sym (after_both refused (entry_checks n sized ++ bounds) (constraint_ends c) a) ∙ ap (λ (z : List Check). after refused (first_refusal z) a) (append_assoc (entry_checks n sized) bounds (constraint_ends c)))

-- where n is an order and the buffers have their sizes, 3 to 5 and 16 are all that is left to ask
pub constraint_sized_lem : {A : Type 0} (refused : Refusal → A) (n : ℤ) (sized others : Bool) (c : Constraint) (a : A) → order_ok n ≡ true → sized ≡ true → c.order ≡ order_of n →
    constraint_entered refused n sized others c a ≡ after refused (first_refusal (bounds_checks others c.order c.low c.high ++ constraint_ends c)) a
unfolding constraint_entered entered
constraint_sized_lem refused n sized others c a o z e =
    let bounds = bounds_checks others c.order c.low c.high in
    rw (← e) (ap (λ (k : Checked). after refused k (after refused (first_refusal (constraint_ends c)) a)) (more-checks (entry_checks n sized) bounds (entry-passes n o z)) ∙ sym (after_both refused bounds (constraint_ends c) a))

-- ---- a problem that passes, mended, passes again
pub problem-mended : (p : Problem) → let c = p.constraint in c.order * c.order ≤ length c.low → c.order * c.order ≤ length c.high →
    first_refusal (problem_checks p) ≡ Ok tt → first_refusal (problem_checks (mended_problem p)) ≡ Ok tt
problem-mended p h k e =
    let c = p.constraint in
    let bounds = bounds_checks (problem_within p) c.order c.low c.high in
    let passed = prefix_passed bounds (constraint_ends c) e in
    more-checks _ (constraint_ends c) (bounds-mended (problem_within p) c.order c.low c.high h k passed)
    ∙ sym (more-checks bounds (constraint_ends c) passed) ∙ e

-- a problem whose tables are symmetric is mended already
pub symmetric_problem : (p : Problem) → let c = p.constraint in c.order * c.order ≤ length c.low → c.order * c.order ≤ length c.high →
    Symmetric c.order c.low c.high → mended_problem p ≡ p
symmetric_problem p h k s =
    let c = p.constraint in
    rw (symmetric_mended max_ℤ c.order greater_pairing c.low h s.low, symmetric_mended min_ℤ c.order smaller_pairing c.high k s.high) refl

-- and one that is mended already has symmetric tables
pub mended-problem_symmetric : (p : Problem) → mended_problem p ≡ p → Symmetric p.constraint.order p.constraint.low p.constraint.high
mended-problem_symmetric p e =
    let c = p.constraint in
    subst (λ (q : Problem). Symmetric c.order q.constraint.low q.constraint.high) e (both_symmetric c.order c.low c.high)

-- mending twice is mending once
pub mended-problem_twice : (p : Problem) → let c = p.constraint in c.order * c.order ≤ length c.low → c.order * c.order ≤ length c.high →
    mended_problem (mended_problem p) ≡ mended_problem p
mended-problem_twice p h k =
    let c = p.constraint in
    rw (mended_twice max_ℤ c.order greater_pairing c.low h, mended_twice min_ℤ c.order smaller_pairing c.high k) refl
