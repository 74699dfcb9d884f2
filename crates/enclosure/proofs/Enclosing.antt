-- D3.3 and D3.4 of docs/RULES.md: a box contains every point of the ellipsoid, and where the answer is 'empty'
-- there is no point. For every a, α and centre.
use mathlib.Core.Path.{◌≡◌, refl, sym, ap, ◌∙◌}
use mathlib.Core.Bool.{Bool, true, false}
use mathlib.Core.List.{List, [], ◌∷◌, ◌++◌}
use Prim.Native.Nat.{ℕ, zero, suc, ◌+◌, ◌≤◌, ◌<◌}
use native.Mathlib.Omega.{arith}
use native.Mathlib.Decide.{dec_lt}
use lib.Dec.{T}
use lib.IntN.{ℤ, pos, ◌+ℤ◌, ◌-ℤ◌, ◌*ℤ◌}
use lib.Signed.{◌≤ℤ◌, le_z}
use lib.ListN.{length, length-append, get_or-append}
use lib.Seq.{get_or-append-add}
use Rattle.integers.specs.Numbers.{abs_ℤ}
use Rattle.integers.specs.Sum.{sum}
use Rattle.integers.proofs.Solver.{◌&◌, order, solver}
use Rattle.integers.proofs.Order.{≤-abs, neg-≤-abs}
use Rattle.integers.proofs.Sums.{sum_ext}
use Rattle.tables.specs.Ranges.{greatest_order, gradient_range}
use Rattle.tables.specs.Matrix.{Matrix, nth, tabulate, form}
use Rattle.tables.specs.Members.{Ends}
use Rattle.tables.specs.Bounds.{Bounds}
use Rattle.tables.specs.Checks.{all}
use Rattle.tables.specs.declared.Refusal.TheVariants.{Flat, Far}
use Rattle.tables.proofs.Matrix.{nth-tabulate}
use Rattle.steps.specs.Steps.{step, step_at}
use Rattle.steps.proofs.Strong.{step_strong, step-at_strong}
use Rattle.centre.specs.Centre.{gradient, at_centre}
use Rattle.sides.specs.Sides.{bound, second_bound, half_side, sides_from, box_of}
use Rattle.enclosure.specs.Box.{Box, sides, empty, refused, boxed}
use Rattle.enclosure.specs.Points.{Point, Contains}
use Rattle.enclosure.proofs.AtCentre.{offset, from-offset, around}
use Rattle.centre.proofs.Magnitudes.{gradient-nonneg}
use Rattle.enclosure.proofs.Halves.{Near, one_of, bound-nonneg, second-bound-nonneg, half_side_lem}

-- what a box says of the points
abbrev pub Says : (n : ℕ) (L U : Matrix) (a : Ends) (α : ℤ) → Box → Type 0
Says n L U a α (sides s) = (X : ℕ → ℤ) (p : ℤ) → Point n L U a α X p → Contains n s X p
Says n L U a α empty = (X : ℕ → ℤ) (p : ℤ) → Point n L U a α X p → ⊥
Says n L U a α (refused r) = Unit {0}

-- ---- side k stands at 2 k and 2 k + 1
module _ (c h : ℕ → ℤ) where
  pub length_sides : (n : ℕ) → length (sides_from n c h) ≡ n + n
  unfolding sides_from
  length_sides zero = refl
  length_sides (suc n) = length-append (sides_from n c h) _ ∙ rw (length_sides n) (omega arith)

  pub sides_at : (n k : ℕ) → k < n → (nth (sides_from n c h) (k + k) ≡ c k -ℤ h k) × (nth (sides_from n c h) (k + k + 1) ≡ c k +ℤ h k)
  unfolding sides_from
  sides_at zero k l = absurd (omega arith)
  sides_at (suc n) k l = go (dec_lt k n) (sides_at n k)
    where
      s : List ℤ
      s = sides_from n c h

      last : List ℤ
      last = (c n -ℤ h n) ∷ (c n +ℤ h n) ∷ []

      go : Dec (k < n) → (k < n → (nth s (k + k) ≡ c k -ℤ h k) × (nth s (k + k + 1) ≡ c k +ℤ h k)) →
          (nth (s ++ last) (k + k) ≡ c k -ℤ h k) × (nth (s ++ last) (k + k + 1) ≡ c k +ℤ h k)
      go (yes b) ih = (
        get_or-append s last (pos 0) (k + k) (omega (arith, length_sides n)) ∙ (ih b).0,
        get_or-append s last (pos 0) (k + k + 1) (omega (arith, length_sides n)) ∙ (ih b).1,
      )
      go (no b) ih =
          let e : k ≡ n = omega arith in
          let low : k + k ≡ length s + 0 = omega (arith, length_sides n) in
          let high : k + k + 1 ≡ length s + 1 = omega (arith, length_sides n) in (
            ap (nth (s ++ last)) low ∙ get_or-append-add s last 0 (pos 0) ∙ ap (λ (i : ℕ). c i -ℤ h i) (sym e),
            ap (nth (s ++ last)) high ∙ get_or-append-add s last 1 (pos 0) ∙ ap (λ (i : ℕ). c i +ℤ h i) (sym e),
          )

module _ (n : ℕ) (order-ok : n ≤ greatest_order) (L U : Matrix) (b : Bounds n L U) (a : Ends) (α : ℤ) (c : ℕ → ℤ) where
  abbrev t : ℤ
  t = step n L U

  abbrev tk : ℕ → ℤ
  tk = nth (tabulate n (step_at n L U))

  abbrev g : ℕ → ℤ
  g = nth (tabulate n (gradient n L U a c))

  abbrev D : ℤ
  D = at_centre n L U a c α

  module _ (one : pos 1 ≤ℤ t) where
    -- ---- a point of the ellipsoid
    module _ (X : ℕ → ℤ) (p : ℤ) (P : Point n L U a α X p) where
      abbrev Y : ℕ → ℤ
      Y = offset X p c

      abbrev F : ℤ
      F = form n P.matrix Y

      spread-is : sum n (λ k. g k *ℤ abs_ℤ (Y k)) ≡ sum n (λ k. gradient n L U a c k *ℤ abs_ℤ (Y k))
      spread-is = sum_ext n _ _ (λ k h. ap (λ (z : ℤ). z *ℤ abs_ℤ (Y k)) (nth-tabulate n (gradient n L U a c) k h))

      near : Near n p P.denominator D t F g Y
      near = record {
        one-p = P.whole;
        one-q = P.member.whole;
        one-t = one;
        nonneg = λ k h. rw (nth-tabulate n (gradient n L U a c) k h) (gradient-nonneg n L U a c k);
        strong = step_strong n order-ok L U b one P.matrix P.denominator P.member Y;
        around = rw spread-is (around P c);
      }

      half-holds : (k : ℕ) → k < n → abs_ℤ (Y k) ≤ℤ (p *ℤ half_side n D t g tk k)
      half-holds k h =
          half_side_lem near tk k h (rw (nth-tabulate n (step_at n L U) k h) (λ o. step-at_strong n order-ok L U b k h o P.matrix P.denominator P.member Y))

      -- p (c(k) - h) ≤ X(k) ≤ p (c(k) + h)
      held : (k : ℕ) → k < n → ((p *ℤ (c k -ℤ half_side n D t g tk k)) ≤ℤ X k) × (X k ≤ℤ (p *ℤ (c k +ℤ half_side n D t g tk k)))
      held k h =
          let w = half_side n D t g tk k in (
            order (p ∷ c k ∷ w ∷ X k ∷ abs_ℤ (Y k) ∷ Y k ∷ []) (half-holds k h & neg-≤-abs (Y k) & from-offset X p c k) (search solver depth 40 fits 20000) (omega arith),
            order (p ∷ c k ∷ w ∷ X k ∷ abs_ℤ (Y k) ∷ Y k ∷ []) (half-holds k h & ≤-abs (Y k) & from-offset X p c k) (search solver depth 40 fits 20000) (omega arith),
          )

    -- ---- the box of a step above 0
    box-of-says : Says n L U a α (box_of n c D t tk g)
    unfolding box_of
    box-of-says =
        go (le_z (pos 0) (bound n D t g)) (le_z (pos 0) (second_bound n D t g))
        (λ X p P. (bound-nonneg (near X p P)).le) (λ X p P. (second-bound-nonneg (near X p P)).le)
      where
        s : List ℤ
        s = sides_from n c (half_side n D t g tk)

        inside : Says n L U a α (sides s)
        inside X p P k h =
            let e = sides_at c (half_side n D t g tk) n k h in
            rw (e.0, e.1) (held X p P k h)

        go : (d e : Bool) → ((X : ℕ → ℤ) (p : ℤ) → Point n L U a α X p → T d) → ((X : ℕ → ℤ) (p : ℤ) → Point n L U a α X p → T e) →
            Says n L U a α (elim d as (λ z. Box) [ true ↦ elim e as (λ z. Box) [ true ↦ sides s | false ↦ empty ] | false ↦ empty ])
        go true true f k = inside
        go true false f k = k
        go false e f k = f

  pub box_says : Says n L U a α (boxed n L U a α c)
  unfolding boxed
  box_says = go (le_z t (pos 0)) (all n (λ k. le_z (g k) (pos gradient_range))) (one_of t)
    where
      go : (d e : Bool) → (d ≡ false → pos 1 ≤ℤ t) →
          Says n L U a α (elim d as (λ z. Box) [ true ↦ refused Flat | false ↦ elim e as (λ z. Box) [ true ↦ box_of n c D t tk g | false ↦ refused Far ] ])
      go true e f = tt
      go false true f = box-of-says (f refl)
      go false false f = tt
