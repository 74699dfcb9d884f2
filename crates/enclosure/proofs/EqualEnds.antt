-- Linear terms whose ends are equal: 16 passes, and the box and the points are those of the one a that is left.
use mathlib.Core.Path.{◌≡◌, refl, ap, ◌∙◌}
use mathlib.Core.Bool.{true, false}
use mathlib.Core.List.{List, [], ◌∷◌}
use Prim.Native.Nat.{ℕ}
use native.Mathlib.Omega.{arith}
use lib.IntN.{ℤ, pos, ◌+ℤ◌, ◌-ℤ◌, ◌*ℤ◌}
use lib.Signed.{◌≤ℤ◌, ≤ℤ_refl, le_z}
use Rattle.std.specs.Prelude.{Ok}
use Rattle.integers.specs.Numbers.{abs_ℤ, min_ℤ, max_ℤ}
use Rattle.integers.specs.Sum.{sum}
use Rattle.integers.proofs.Parts.{≤ℤ_antisym, le_z_true}
use Rattle.integers.proofs.Order.{*ℤ_cancel}
use Rattle.integers.proofs.Solver.{◌&◌, ring, order, solver}
use Rattle.integers.proofs.Sums.{sum_ext, sum-*}
use Rattle.tables.specs.Ranges.{gradient_range}
use Rattle.tables.specs.Matrix.{Matrix, nth, tabulate, form}
use Rattle.tables.specs.Members.{Member}
use Rattle.tables.specs.Checks.{all, nowhere_crossed, ends_checks, first_refusal}
use Rattle.tables.specs.declared.Refusal.TheVariants.{Flat, Far}
use Rattle.tables.proofs.Checks.{all_of, first_passes, first-none}
use Rattle.vectors.specs.Least.{least_value}
use Rattle.steps.specs.Steps.{step, step_at}
use Rattle.centre.specs.Centre.{gradient, low_gradient, high_gradient}
use Rattle.centre.proofs.EqualEnds.{only, at-centre-only}
use Rattle.sides.specs.Sides.{box_of}
use Rattle.enclosure.specs.Box.{Box, refused, boxed}
use Rattle.enclosure.specs.Points.{Point}

-- X over p, where X'NX + 2 p q a'X ≤ α p² q for some member N over q
pub record PointOf (n : ℕ) (L U : Matrix) (a : ℕ → ℤ) (α : ℤ) (X : ℕ → ℤ) (p : ℤ) : Type 0 where
  pub matrix : Matrix
  pub denominator : ℤ
  pub member : Member n L U matrix denominator
  pub whole : pos 1 ≤ℤ p
  pub inside : (form n matrix X +ℤ pos 2 *ℤ p *ℤ denominator *ℤ sum n (λ k. a k *ℤ X k)) ≤ℤ (α *ℤ (p *ℤ p) *ℤ denominator)

module _ {n : ℕ} {L U : Matrix} {a : ℕ → ℤ} {α : ℤ} {X : ℕ → ℤ} {p : ℤ} where
  pub point_only : PointOf n L U a α X p → Point n L U (only a) α X p
  point_only P =
      record {
        matrix = P.matrix;
        denominator = P.denominator;
        member = P.member;
        terms = a;
        scale = pos 1;
        between = record { whole = ≤ℤ_refl (pos 1); low = λ k h. one k; high = λ k h. other k };
        whole = P.whole;
        inside =
            order (form n P.matrix X ∷ sum n (λ k. a k *ℤ X k) ∷ p ∷ P.denominator ∷ α ∷ []) P.inside (search solver depth 40 fits 20000) (omega arith);
      }
    where
      one : (k : ℕ) → (pos 1 *ℤ a k) ≤ℤ a k
      one k = order (a k ∷ []) (≤ℤ_refl (a k)) (search solver depth 40 fits 20000) (omega arith)

      other : (k : ℕ) → a k ≤ℤ (pos 1 *ℤ a k)
      other k = order (a k ∷ []) (≤ℤ_refl (a k)) (search solver depth 40 fits 20000) (omega arith)

  pub only_point : Point n L U (only a) α X p → PointOf n L U a α X p
  only_point P =
      let q = P.denominator in
      let s = P.scale in
      let F = form n P.matrix X in
      let aX = sum n (λ k. a k *ℤ X k) in
      let sums : sum n (λ k. P.terms k *ℤ X k) ≡ s *ℤ aX =
      sum_ext n _ (λ k. s *ℤ (a k *ℤ X k))
      (λ k h. ap (λ (z : ℤ). z *ℤ X k) (≤ℤ_antisym (P.between.high k h) (P.between.low k h)) ∙ ring (s ∷ a k ∷ X k ∷ []) (search solver depth 40 fits 20000) refl)
      ∙ sum-* n s _ in
      record {
        matrix = P.matrix;
        denominator = q;
        member = P.member;
        whole = P.whole;
        inside =
            *ℤ_cancel s P.between.whole
            (order (F ∷ sum n (λ k. P.terms k *ℤ X k) ∷ aX ∷ p ∷ q ∷ s ∷ α ∷ []) (P.inside & ap (λ (z : ℤ). pos 2 *ℤ p *ℤ q *ℤ z) sums)
            (search solver depth 40 fits 20000) (omega arith));
      }

-- ---- 16 passes
pub ends_equal : (n : ℕ) (a : List ℤ) → first_refusal (ends_checks n a a) ≡ Ok tt
unfolding ends_checks nowhere_crossed
ends_equal n a = first_passes _ _ (all_of _ n (λ k h. le_z_true (≤ℤ_refl (nth a k)))) ∙ first-none

-- ---- the box of one a
module _ (n : ℕ) (L U : Matrix) (a : ℕ → ℤ) (α : ℤ) (c : ℕ → ℤ) where
  -- g(k) and D with the one a
  abbrev g : ℕ → ℤ
  g k =
      max_ℤ (abs_ℤ (sum n (λ j. min_ℤ (L k j *ℤ c j) (U k j *ℤ c j)) +ℤ a k)) (abs_ℤ (sum n (λ j. max_ℤ (L k j *ℤ c j) (U k j *ℤ c j)) +ℤ a k))

  abbrev D : ℤ
  D = α -ℤ pos 2 *ℤ sum n (λ k. a k *ℤ c k) -ℤ least_value n L U c

  -- 8, 9, or the box with d for D
  abbrev box_with : ℤ → Box
  box_with d =
      elim (le_z (step n L U) (pos 0)) [
        | true ↦ refused Flat
        | false ↦ elim (all n (λ k. le_z (nth (tabulate n g) k) (pos gradient_range))) [
          | true ↦ box_of n c d (step n L U) (nth (tabulate n (step_at n L U))) (nth (tabulate n g))
          | false ↦ refused Far
        ]
      ]

  pub boxed-only : boxed n L U (only a) α c ≡ box_with D
  unfolding boxed gradient low_gradient high_gradient
  boxed-only = ap box_with (at-centre-only n L U a c α)
