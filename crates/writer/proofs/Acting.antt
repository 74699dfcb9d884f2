-- Laws of the writer's act: where n is an order and the buffers have their sizes 3, 4, 5 and 16 are all that is left to ask, of the numbers
-- as they are handed in or in arrays; what is written is read back; and a problem is refused by the number that its file would get.
use mathlib.Core.Path.{◌≡◌, refl, sym, ap, ap₂, subst, ◌∙◌}
use mathlib.Core.Bool.{Bool, true, false}
use mathlib.Core.List.{List, ◌++◌}
use Prim.Native.Nat.{ℕ}
use native.Mathlib.Omega.{arith}
use borrow.Author.Tests.{eqb-true}
use lib.Dec.{eqb}
use lib.IntN.{ℤ, pos, negsuc}
use Rattle.tables.specs.Checks.{Check, Checked, order_ok, order_of, entry_checks, first_refusal}
use Rattle.tables.specs.Answers.{after}
use Rattle.tables.specs.Problem.{constraint_sized, problem_within, problem_checks, constraint_entered, mended_problem}
use Rattle.tables.specs.declared.Refusal.TheVariants.{Order, Length, Range}
use Rattle.std.specs.Prelude.{Ok, Err}
use Rattle.tables.specs.declared.problem.Problem.{Problem}
use Rattle.tables.specs.declared.problem.Sizes.{Sizes}
use Rattle.tables.specs.declared.problem.Lengths.{Lengths}
use Rattle.tables.proofs.Checks.{and_left, and_right, more-checks, order-of}
use Rattle.tables.proofs.Answers.{after-means, prefix_passed}
use Rattle.tables.proofs.Admission.{entry-passed, order-known, no-order, no-sizes}
use Rattle.tables.proofs.Problems.{constraint_sizes-of, problem-door, constraint_sized_lem, symmetric_problem}
use Rattle.summary.specs.Problems.{file_size, file_of, padded, checked_of, reading}
use Rattle.summary.proofs.RoundTrip.{InFields, outside_range, read_back}
use Rattle.summary.proofs.Padding.{Sized, padded-file, padded-checks, padded-mending, padded-through, file_checked}
use Rattle.writer.specs.Writing.{Written, kept, written, checked_writing, writing, write_sizes, Meaning}

-- ---- the sizes
pub record WriteSized (n : ℕ) (z : Sizes) (b : Lengths) (c s : ℕ) : Type 0 where
  pub low : b.bounds.low ≡ z.table
  pub high : b.bounds.high ≡ z.table
  pub linear_low : b.linear.low ≡ z.vector
  pub linear_high : b.linear.high ≡ z.vector
  pub centre : c ≡ z.vector
  pub file : s ≡ file_size n

pub write-sizes-of : (n : ℕ) (z : Sizes) (b : Lengths) (c s : ℕ) → write_sizes n z b c s ≡ true → WriteSized n z b c s
unfolding write_sizes
write-sizes-of n z b c s e =
    let o = constraint_sizes-of z b (and_left (constraint_sized z b) _ e) in
    let t = and_right (constraint_sized z b) _ e in
    record {
      low = o.0;
      high = o.1;
      linear_low = o.2;
      linear_high = o.3;
      centre = eqb-true c z.vector (and_left (eqb c z.vector) _ t);
      file = eqb-true s (file_size n) (and_right (eqb c z.vector) _ t);
    }

-- ---- the door: 1, then 2
module _ (n : ℤ) (sized : Bool) (p : Problem) (s : List ℕ) where
  pub writing-no-order : order_of n ≡ 0 → kept s Order ≡ writing n sized p s
  unfolding writing constraint_entered
  writing-no-order e = no-order n _ _ _ _ (kept s) _ e

  pub writing-no-sizes : (order_of n ≡ 0 → ⊥) → sized ≡ false → kept s Length ≡ writing n sized p s
  unfolding writing constraint_entered
  writing-no-sizes h e = no-sizes n sized _ _ _ (kept s) _ h e

-- and then 3, 4, 5 and 16
pub writing-sized : (n : ℤ) (sized : Bool) (p : Problem) (s : List ℕ) → order_ok n ≡ true → sized ≡ true → p.constraint.order ≡ order_of n →
    checked_writing p s ≡ writing n sized p s
unfolding checked_writing writing
writing-sized n sized p s o z e = sym (constraint_sized_lem (kept s) n sized (problem_within p) p.constraint (written p) o z e)

-- a problem in arrays, and as it is handed in
pub writing-padded : (p : Problem) (s : List ℕ) → Sized p → checked_writing (padded p) s ≡ checked_writing p s
unfolding checked_writing
writing-padded p s z =
    ap₂ (λ (checks : List Check) (f : List ℕ). after (kept s) (first_refusal checks) (record { answer = Ok tt; file = f }))
    (padded-checks p z)
    (ap file_of (sym (padded-mending p z)) ∙ padded-file (mended_problem p))

-- the act on both is the same, whatever n is and check 2 finds
pub writing-arrays : (n : ℤ) (sized : Bool) (p : Problem) (s : List ℕ) → p.constraint.order ≡ order_of n → Sized p →
    writing n sized (padded p) s ≡ writing n sized p s
unfolding writing
writing-arrays n sized p s e z =
    problem-door (kept s) n sized (padded p) (written (padded p)) e
    ∙ ap₂ (λ (checks : List Check) (f : List ℕ). after (kept s) (first_refusal (entry_checks n sized ++ checks))
    (record { answer = Ok tt; file = f }))
    (padded-checks p z)
    (ap file_of (sym (padded-mending p z)) ∙ padded-file (mended_problem p))
    ∙ sym (problem-door (kept s) n sized p (written p) e)

-- ---- what an answer means
order_ok_lem : (n : ℤ) → order_ok n ≡ true → order_ok (pos (order_of n)) ≡ true
order_ok_lem (pos k) e = ap (λ (m : ℕ). order_ok (pos m)) (order-known (pos k) e) ∙ e
order_ok_lem (negsuc k) e = absurd (order-of e).0.le

abbrev pub Means : Problem → Written → Type 0
Means p w = Meaning w.answer p w.file

pub writing-means : (n : ℤ) (sized : Bool) (p : Problem) (s : List ℕ) → p.constraint.order ≡ order_of n → (sized ≡ true → Sized p) →
    Means p (writing n sized p s)
unfolding writing
writing-means n sized p s e z =
    let checks = entry_checks n sized ++ problem_checks p in
    subst (Means p) (sym (problem-door (kept s) n sized p (written p) e))
    (after-means (kept s) (first_refusal checks) (written p) (Means p) (λ r. record { back = λ q. cc q; file = λ q. cc q })
    (λ q.
    let first = prefix_passed (entry_checks n sized) (problem_checks p) q in
    let o = entry-passed n sized first in
    let passed = sym (more-checks (entry_checks n sized) (problem_checks p) first) ∙ q in
    let sizes = z o.1 in
    let through = padded-through p sizes (rw e (order_ok_lem n o.0)) passed in
    record {
      back = λ _. ap reading (sym (padded-file (mended_problem p))) ∙ read_back (padded (mended_problem p)) through;
      file = λ _ h. ap file_of (symmetric_problem p (omega (arith, sizes.low)) (omega (arith, sizes.high)) h);
    }))

-- ---- R24.5: a problem is refused by the number that its file would get
answered : (p : Problem) (s : List ℕ) → (checked_writing p s).answer ≡ first_refusal (problem_checks p)
unfolding checked_writing after
answered p s = go (first_refusal (problem_checks p))
  where
    go : (k : Checked) → (after (kept s) k (written p)).answer ≡ k
    go (Ok tt) = refl
    go (Err r) = refl

module _ (n : ℤ) (sized : Bool) (p : Problem) (s : List ℕ) (o : order_ok n ≡ true) (y : sized ≡ true)
    (e : p.constraint.order ≡ order_of n) where
  asked : (writing n sized p s).answer ≡ first_refusal (problem_checks p)
  asked = ap (λ (w : Written). w.answer) (sym (writing-sized n sized p s o y e)) ∙ answered p s

  -- where its numbers fit their fields
  pub same_refusal : Sized p → InFields p → (writing n sized p s).answer ≡ checked_of (reading (file_of p))
  same_refusal z f = asked ∙ sym (file_checked p z (rw e (order_ok_lem n o)) f)

  -- and where one does not it is 3
  pub too_large_lem : (InFields p → ⊥) → (writing n sized p s).answer ≡ Err Range
  too_large_lem f = asked ∙ outside_range p f
