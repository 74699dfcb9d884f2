-- The sides of a box have the size that the order calls for, and fit 64 bits.
use mathlib.Core.Path.{◌≡◌, refl, sym, subst}
use mathlib.Core.Bool.{Bool, true, false}
use mathlib.Core.List.{List}
use Prim.Native.Nat.{ℕ, ◌+◌, ◌*◌, ◌/◌, ◌≤◌, ◌<◌}
use native.Mathlib.Omega.{arith}
use native.Mathlib.Decide.{dec_lt}
use lib.IntN.{ℤ, pos, ◌+ℤ◌}
use lib.Signed.{le_z}
use lib.ListN.{length}
use Rattle.integers.specs.Numbers.{Within, min_ℤ, max_ℤ}
use Rattle.integers.specs.Division.{ceil_div}
use Rattle.integers.specs.Root.{least_root}
use Rattle.integers.proofs.Machine.{within-+, within--}
use Rattle.tables.specs.Ranges.{greatest_order, limit_range, centre_range, gradient_range}
use Rattle.tables.specs.Matrix.{Matrix, at, nth, tabulate}
use Rattle.tables.specs.Bounds.{CheckedTables}
use Rattle.tables.specs.Checks.{all, order_of}
use Rattle.tables.specs.Problem.{constraint_of, problem_of, ends_of}
use Rattle.tables.proofs.Buffers.{Small}
use Rattle.tables.proofs.Matrix.{length-tabulate, nth-tabulate}
use Rattle.tables.proofs.Checks.{passed-bounds}
use Rattle.tables.proofs.MendedTables.{mended-length}
use Rattle.tables.proofs.Admission.{order_small}
use Rattle.tables.proofs.Problems.{constraint_means}
use Rattle.cholesky.proofs.Lists.{nth_past}
use Rattle.steps.specs.Steps.{step, step_at}
use Rattle.centre.specs.Centre.{gradient}
use Rattle.sides.specs.Sides.{bound, second_bound, half_side, sides_from, box_of}
use Rattle.enclosure.specs.Box.{Box, sides, empty, refused, boxed, problem_box, boxing}
use Rattle.tables.specs.Buffers.{Filled}
use Rattle.arithmetic.specs.Required.{bound_range}
use Rattle.centre.specs.Required.{LinearTerms}
use Rattle.sides.specs.Required.{half_range, side_range, SidesReady}
use Rattle.enclosure.proofs.Halves.{one_of}
use Rattle.enclosure.proofs.Readiness.{ready_of}
use Rattle.enclosure.proofs.Enclosing.{length_sides, sides_at}
use Rattle.sides.proofs.HalfSides.{bound-within, halves-within, half-terms, second-within, smaller_within, second_is, half_is}
use Rattle.enclosure.proofs.BoxCases.{box_flat, box_far, box_near, limit-within, centre-terms}

abbrev pub Fitting : ℕ → Box → Type 0
Fitting n (sides s) = Small (n + n) side_range s
Fitting n empty = Unit {0}
Fitting n (refused r) = Unit {0}

-- the first n entries of an array
filled : (n : ℕ) → n ≤ greatest_order → (f : ℕ → ℤ) → Filled greatest_order n f (tabulate greatest_order f)
filled n o f = record { size = length-tabulate greatest_order f; entries = λ k h. nth-tabulate greatest_order f k (omega arith) }

-- ---- sides c(k) - h(k) and c(k) + h(k)
module _ (n : ℕ) (c h : ℕ → ℤ) (v : (k : ℕ) → k < n → Within centre_range (c k)) (w : (k : ℕ) → k < n → Within half_range (h k)) where
  low_small : (k : ℕ) → k < n → Within side_range (nth (sides_from n c h) (k + k))
  low_small k l = rw (sides_at c h n k l).0 (within-- (v k l) (w k l))

  high_small : (k : ℕ) → k < n → Within side_range (nth (sides_from n c h) (k + k + 1))
  high_small k l = rw (sides_at c h n k l).1 (within-+ (v k l) (w k l))

  sides_sized : Small (n + n) side_range (sides_from n c h)
  sides_sized = record { size = length_sides c h n; small = λ i. number i (dec_lt i (n + n)) (dec_lt (i / 2 + i / 2) i) }
    where
      number : (i : ℕ) → Dec (i < n + n) → Dec (i / 2 + i / 2 < i) → Within side_range (nth (sides_from n c h) i)
      number i (no l) d = rw (nth_past (sides_from n c h) i (omega (arith, length_sides c h n))) (record { size = omega arith })
      number i (yes l) (yes d) =
          let e : i / 2 + i / 2 + 1 ≡ i = omega arith in
          subst (λ (j : ℕ). Within side_range (nth (sides_from n c h) j)) e (high_small (i / 2) (omega arith))
      number i (yes l) (no d) =
          let e : i / 2 + i / 2 ≡ i = omega arith in
          subst (λ (j : ℕ). Within side_range (nth (sides_from n c h) j)) e (low_small (i / 2) (omega arith))

-- ---- the box of numbers that were let through
module _ {n : ℕ} {c : List ℤ} {d t : ℤ} {g : List ℤ} (q : SidesReady n c d t g) (tk : ℕ → ℤ) where
  abbrev halves : ℕ → ℤ
  halves k = ceil_div (nth g k) t +ℤ least_root t (bound n d t (nth g))

  halves-filled : Filled greatest_order n halves (tabulate greatest_order halves)
  halves-filled = filled n q.near.order halves

  first-bound : Within bound_range (bound n d t (nth g))
  first-bound = bound-within q.near q.difference

  second-bound : Within bound_range (second_bound n d t (nth g))
  second-bound =
      subst (Within bound_range) (second_is n (nth c) d t tk (nth g) halves-filled)
      (second-within (half-terms q.near first-bound halves-filled) q.difference)

  half-small : (k : ℕ) → k < n → Within half_range (half_side n d t (nth g) tk k)
  half-small k h =
      subst (Within half_range) (half_is n (nth c) d t tk (nth g) halves-filled k h)
      (smaller_within (nth (tabulate greatest_order halves) k) (tk k) (second_bound n d t (nth g))
      (halves-within q.near first-bound halves-filled k h) second-bound)

  box_of_fitting : Fitting n (box_of n (nth c) d t tk (nth g))
  unfolding box_of
  box_of_fitting = go (le_z (pos 0) (bound n d t (nth g))) (le_z (pos 0) (second_bound n d t (nth g)))
    where
      s : List ℤ
      s = sides_from n (nth c) (half_side n d t (nth g) tk)

      go : (x y : Bool) →
          Fitting n (elim x as (λ z. Box) [ true ↦ elim y as (λ z. Box) [ true ↦ sides s | false ↦ empty ] | false ↦ empty ])
      go true true = sides_sized n (nth c) (half_side n d t (nth g) tk) q.centre half-small
      go true false = tt
      go false y = tt

-- ---- the answer
module _ {n : ℕ} {l u a b c : List ℤ} (q : CheckedTables n l u) (r : LinearTerms n a b c) {α : ℤ} (w : Within limit_range α) where
  abbrev L : Matrix
  L = at n l

  abbrev U : Matrix
  U = at n u

  abbrev gradients : ℕ → ℤ
  gradients = gradient n L U (ends_of a b) (nth c)

  abbrev g : List ℤ
  g = tabulate greatest_order gradients

  gradients-filled : Filled greatest_order n gradients g
  gradients-filled = filled n q.order gradients

  boxed_fitting : Fitting n (boxed n L U (ends_of a b) α (nth c))
  boxed_fitting = go (le_z (step n L U) (pos 0)) refl (all n (λ k. le_z (nth g k) (pos gradient_range))) refl
    where
      go : (x : Bool) → le_z (step n L U) (pos 0) ≡ x → (y : Bool) → all n (λ k. le_z (nth g k) (pos gradient_range)) ≡ y →
          Fitting n (boxed n L U (ends_of a b) α (nth c))
      go true e y f = subst (Fitting n) (sym (box_flat n L U (ends_of a b) α (nth c) e)) tt
      go false e false f = subst (Fitting n) (sym (box_far n L U (ends_of a b) α (nth c) e (nth g) gradients-filled.entries f)) tt
      go false e true f =
          subst (Fitting n)
          (sym (box_near n L U (ends_of a b) α (nth c) e (nth g) gradients-filled.entries f (step_at n L U) (λ k h. refl)))
          (box_of_fitting (ready_of q r (one_of (step n L U) e) gradients-filled f w) (step_at n L U))

-- where check 2 passes, the lists have at least the numbers of their order
pub boxing_fitting : (n : ℤ) (sized : Bool) (l u a b : List ℤ) (α : ℤ) (c : List ℤ) → (let k = order_of n in
    (sized ≡ true → (k * k ≤ length l) × (k * k ≤ length u) × (k ≤ length a) × (k ≤ length b) × (k ≤ length c)) →
    Fitting k (boxing n sized (problem_of k l u a b α c)))
unfolding boxing problem_box
boxing_fitting n sized l u a b α c h =
    let k = order_of n in
    constraint_means refused n sized _ (constraint_of k l u a b α) _ (Fitting k) (λ r. tt)
    (λ d. let e = h d.sizes in
    boxed_fitting (record {
      order = order_small n;
      low-length = omega (arith, mended-length max_ℤ k l e.0);
      high-length = omega (arith, mended-length min_ℤ k u e.1);
      bounds = passed-bounds k l u d.tables;
    })
    (centre-terms k a b α c d.within (order_small n) e.2 e.3 e.4)
    (limit-within k a b α c d.within))
