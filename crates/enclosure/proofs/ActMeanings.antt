-- What the box act's answer means, of buffers of any kind: the sides are read back from them as they were laid.
use mathlib.Core.Path.{◌≡◌, ap, ◌∙◌}
use mathlib.Core.Bool.{Bool}
use mathlib.Core.List.{List}
use Prim.Native.Nat.{ℕ, ◌+◌, ◌*◌}
use native.Mathlib.Omega.{arith}
use lib.IntN.{ℤ}
use lib.ListN.{length}
use Rattle.integers.proofs.Machine.{fits_within}
use Rattle.tables.specs.Checks.{order_of}
use Rattle.tables.specs.Elements.{BuffersWhole}
use Rattle.tables.proofs.Answers.{exactly}
use Rattle.tables.specs.Problem.{constraint_of, problem_of, lengths_of}
use Rattle.tables.specs.declared.problem.Constraint.{Constraint}
use Rattle.enclosure.specs.Box.{Box, sides, empty, refused, boxing}
use Rattle.enclosure.specs.Act.{Enclosed, laid_sides, box_sizes, box_act, Meaning}
use Rattle.enclosure.proofs.BoxCases.{box_sizes-of}
use Rattle.enclosure.proofs.BoxFitting.{Fitting, boxing_fitting}
use Rattle.enclosure.proofs.BoxMeanings.{boxing-means}

module _ {A : Type 0} {taken : ℕ → ℕ} {numbers : List A → ℕ → List ℤ} {elements : List ℤ → ℕ → List A}
    (whole : BuffersWhole taken numbers elements) where
  -- a box of order k in a buffer s
  abbrev laid : ℕ → List A → Box → Enclosed (List A)
  laid k s b = laid_sides (λ x. elements x (k + k)) b s

  read-means : (k : ℕ) (c : Constraint) (s : List A) (b : Box) → Fitting k b →
      (let j = laid_sides (λ x. x) b (numbers s (k + k)) in Meaning j.answer c j.sides) →
      Meaning (laid k s b).answer c (numbers (laid k s b).sides (k + k))
  read-means k c s (sides t) z m = rw (whole.read_back t (k + k) z.size (λ i. fits_within (z.small i) (omega arith))) m
  read-means k c s empty z m = m
  read-means k c s (refused r) z m = m

  module _ (n : ℤ) (l u a b : List A) (α : ℤ) (c s : List A) where
    abbrev k : ℕ
    k = order_of n

    abbrev sized : Bool
    sized =
        box_sizes (record { table = taken (k * k); vector = taken k }) (taken (k + k))
        (lengths_of (length l) (length u) (length a) (length b)) (length c) (length s)

    abbrev box : Box
    box = boxing n sized (problem_of k (numbers l (k * k)) (numbers u (k * k)) (numbers a k) (numbers b k) α (numbers c k))

    fitting : Fitting k box
    fitting =
        boxing_fitting n sized _ _ _ _ α _ (λ e.
        let z = box_sizes-of _ _ _ _ _ e in (
          omega (arith, whole.numbers_whole l (k * k) z.low),
          omega (arith, whole.numbers_whole u (k * k) z.high),
          omega (arith, whole.numbers_whole a k z.linear_low),
          omega (arith, whole.numbers_whole b k z.linear_high),
          omega (arith, whole.numbers_whole c k z.centre),
        ))

    means : let j = laid k s box in
        Meaning j.answer (constraint_of k (numbers l (k * k)) (numbers u (k * k)) (numbers a k) (numbers b k) α) (numbers j.sides (k + k))
    means = read-means k _ s box fitting (boxing-means n sized _ _ _ _ α _ _)

    -- each box that is this one is what the act answers
    pub act_by : {q : Box} → q ≡ box → laid k s q ≡ box_act taken numbers elements n l u a b α c s
    unfolding box_act
    act_by e = ap (laid k s) e

    -- with what it means
    pub act_answers : {q : Box} (j : Enclosed (List A)) → j ≡ laid k s q → q ≡ box → record {
      exact : j ≡ box_act taken numbers elements n l u a b α c s;
      meaning : Meaning j.answer (constraint_of k (numbers l (k * k)) (numbers u (k * k)) (numbers a k) (numbers b k) α)
          (numbers j.sides (k + k));
    }
    unfolding box_act
    act_answers j e f =
        exactly
        (λ (j : Enclosed (List A)). Meaning j.answer (constraint_of k (numbers l (k * k)) (numbers u (k * k)) (numbers a k) (numbers b k) α)
        (numbers j.sides (k + k)))
        means j (e ∙ ap (laid k s) f)
