-- The box by its steps: flat, far, and else what its numbers give; and what the code states and hands out.
use mathlib.Core.Path.{◌≡◌, refl, sym, ap, ap₂, ◌∙◌}
use mathlib.Core.Bool.{Bool, true, false, ◌&&◌}
use mathlib.Core.List.{List}
use Prim.Native.Nat.{ℕ, ◌+◌, ◌≤◌, ◌<◌}
use lib.IntN.{ℤ, pos}
use lib.Signed.{le_z}
use lib.ListN.{length}
use borrow.Author.Tests.{eqb-true}
use lib.Dec.{eqb}
use Rattle.std.specs.Prelude.{Result, Ok, Err, Option, Some, None}
use Rattle.integers.specs.Numbers.{Within}
use Rattle.tables.specs.Ranges.{greatest_order, limit_range, centre_range, gradient_range}
use Rattle.tables.specs.Matrix.{Matrix, nth, tabulate}
use Rattle.tables.specs.Members.{Ends}
use Rattle.tables.specs.Checks.{all, within, all_within, linear_within, terms_within}
use Rattle.tables.specs.Problem.{constraint_sized}
use Rattle.tables.specs.declared.Refusal.{Refusal}
use Rattle.tables.specs.declared.problem.Sizes.{Sizes}
use Rattle.tables.specs.declared.problem.Lengths.{Lengths}
use Rattle.tables.specs.declared.Refusal.TheVariants.{Flat, Far}
use Rattle.tables.proofs.Checks.{and_left, and_right, all-at, all_ext, within_of, linear_of}
use Rattle.tables.proofs.Problems.{constraint_sizes-of}
use Rattle.tables.proofs.Matrix.{nth-tabulate}
use Rattle.steps.specs.Steps.{step, step_at}
use Rattle.centre.specs.Centre.{gradient, at_centre}
use Rattle.sides.specs.Sides.{box_of}
use Rattle.enclosure.specs.Box.{Box, refused, boxed}
use Rattle.sides.proofs.SameBox.{box_same}
use Rattle.centre.specs.Required.{LinearTerms}
use Rattle.sides.specs.Required.{box_in}
use Rattle.enclosure.specs.Act.{Enclosed, laid_sides, box_sizes}
use Rattle.enclosure.specs.Stating.{stated}
use Rattle.enclosure.specs.declared.enclose.BoxAnswer.{BoxAnswer}

-- ---- the cases
-- 8, then 9
abbrev let_through : Bool → Bool → Box → Box
let_through flat near b = elim flat [ true ↦ refused Flat | false ↦ elim near [ true ↦ b | false ↦ refused Far ] ]

module _ (n : ℕ) (L U : Matrix) (a : Ends) (α : ℤ) (c : ℕ → ℤ) where
  -- the tests of the definition
  abbrev near : Bool
  near = all n (λ k. le_z (nth (tabulate n (gradient n L U a c)) k) (pos gradient_range))

  abbrev last : Box
  last = box_of n c (at_centre n L U a c α) (step n L U) (nth (tabulate n (step_at n L U))) (nth (tabulate n (gradient n L U a c)))

  boxed_is : (x y : Bool) → le_z (step n L U) (pos 0) ≡ x → near ≡ y → boxed n L U a α c ≡ let_through x y last
  unfolding boxed
  boxed_is x y e f = ap₂ (λ (x y : Bool). let_through x y last) e f

  pub box_flat : le_z (step n L U) (pos 0) ≡ true → boxed n L U a α c ≡ refused Flat
  box_flat e = boxed_is true near e refl

  module _ (e : le_z (step n L U) (pos 0) ≡ false) (g : ℕ → ℤ) (h : (k : ℕ) → k < n → g k ≡ gradient n L U a c k) where
    near-ext : near ≡ all n (λ k. le_z (g k) (pos gradient_range))
    near-ext = all_ext n _ _ (λ k l. ap (λ (z : ℤ). le_z z (pos gradient_range)) (nth-tabulate n (gradient n L U a c) k l ∙ sym (h k l)))

    pub box_far : all n (λ k. le_z (g k) (pos gradient_range)) ≡ false → boxed n L U a α c ≡ refused Far
    box_far f = boxed_is false false e (near-ext ∙ f)

    pub box_near : all n (λ k. le_z (g k) (pos gradient_range)) ≡ true → (s : ℕ → ℤ) → ((k : ℕ) → k < n → s k ≡ step_at n L U k) →
        boxed n L U a α c ≡ box_of n c (at_centre n L U a c α) (step n L U) s g
    box_near f s p =
        boxed_is false true e (near-ext ∙ f)
        ∙ box_same n c _ _ _ s _ g (λ k l. nth-tabulate n (step_at n L U) k l ∙ sym (p k l))
        (λ k l. nth-tabulate n (gradient n L U a c) k l ∙ sym (h k l))

-- ---- what check 3 finds beside the tables
module _ (n : ℕ) (a b : List ℤ) (α : ℤ) (c : List ℤ) (e : terms_within n a b α c ≡ true) where
  -- the linear terms, and what comes after them
  linear : linear_within n a b ≡ true
  unfolding terms_within
  linear = and_left _ (within limit_range α && all_within centre_range n c) e

  rest : (within limit_range α && all_within centre_range n c) ≡ true
  unfolding terms_within
  rest = and_right (linear_within n a b) _ e

  pub limit-within : Within limit_range α
  limit-within = within_of limit_range α (and_left (within limit_range α) (all_within centre_range n c) rest)

  pub centre-terms : n ≤ greatest_order → n ≤ length a → n ≤ length b → n ≤ length c → LinearTerms n a b c
  unfolding all_within
  centre-terms o r s v = record {
    order = o;
    low-length = r;
    high-length = s;
    centre-length = v;
    low = λ k h. (linear_of n a b linear k h).0;
    high = λ k h. (linear_of n a b linear k h).1;
    centre = λ k h. within_of centre_range (nth c k) (all-at _ n (and_right (within limit_range α) _ rest) k h);
  }

-- ---- what is handed out with the box that the code states, in a buffer of any kind
module _ {A : Type 0} (F : List ℤ → A) (n : ℕ) {b : Box} {r : Result (Option (List ℤ)) Refusal} (e : stated n r ≡ b) (s : A) where
  given_by : (q : Result (Option (List ℤ)) Refusal) → r ≡ q → laid_sides F (stated n q) s ≡ laid_sides F b s
  given_by q f = ap (λ (g : Box). laid_sides F g s) (ap (λ (r : Result (Option (List ℤ)) Refusal). stated n r) (sym f) ∙ e)

  pub given_sides : {x : List ℤ} {s' : A} → r ≡ Ok (Some x) → s' ≡ F (tabulate (n + n) (nth x)) →
      ◌≡◌ {A = Enclosed A} (record { answer = Ok BoxAnswer.Sides; sides = s' }) (laid_sides F b s)
  unfolding stated box_in
  given_sides {x} f w = rw w (given_by (Ok (Some x)) f)

  pub given_empty : r ≡ Ok None → ◌≡◌ {A = Enclosed A} (record { answer = Ok BoxAnswer.Empty; sides = s }) (laid_sides F b s)
  unfolding stated box_in
  given_empty f = given_by (Ok None) f

  pub given-refused : (k : Refusal) → r ≡ Err k → ◌≡◌ {A = Enclosed A} (record { answer = Err k; sides = s }) (laid_sides F b s)
  unfolding stated
  given-refused k f = given_by (Err k) f

-- ---- checks 1 and 2 passed
pub record BoxSized (z : Sizes) (pairs : ℕ) (b : Lengths) (c s : ℕ) : Type 0 where
  pub low : b.bounds.low ≡ z.table
  pub high : b.bounds.high ≡ z.table
  pub linear_low : b.linear.low ≡ z.vector
  pub linear_high : b.linear.high ≡ z.vector
  pub centre : c ≡ z.vector
  pub sides : s ≡ pairs

pub box_sizes-of : (z : Sizes) (pairs : ℕ) (b : Lengths) (c s : ℕ) → box_sizes z pairs b c s ≡ true → BoxSized z pairs b c s
unfolding box_sizes
box_sizes-of z pairs b c s e =
    let v = constraint_sizes-of z b (and_left (constraint_sized z b) (eqb c z.vector && eqb s pairs) e) in
    let t = and_right (constraint_sized z b) (eqb c z.vector && eqb s pairs) e in
    record {
      low = v.0;
      high = v.1;
      linear_low = v.2;
      linear_high = v.3;
      centre = eqb-true c z.vector (and_left (eqb c z.vector) (eqb s pairs) t);
      sides = eqb-true s pairs (and_right (eqb c z.vector) (eqb s pairs) t);
    }
