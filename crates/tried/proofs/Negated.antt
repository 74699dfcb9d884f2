-- x and -x are under the same numbers, so that x may be passed over where -x stood earlier.
use mathlib.Core.Path.{◌≡◌, refl, sym, ap, ap₂, ◌∙◌}
use mathlib.Core.Bool.{Bool, true, false, not, ◌&&◌, ◌||◌}
use mathlib.Core.Logic.{by_cases}
use mathlib.Core.List.{[], ◌∷◌}
use Prim.Native.Nat.{ℕ, zero, suc}
use native.Mathlib.Omega.{arith}
use lib.Dec.{eqb}
use lib.IntN.{ℤ, pos, neg_ℤ, ◌*ℤ◌, ℤ_discrete}
use lib.Signed.{le_z, lt_z}
use Rattle.integers.proofs.Solver.{ring, order, solver}
use Rattle.integers.proofs.Sums.{sum_ext}
use Rattle.tables.specs.Matrix.{Matrix, form, norm_squared}
use Rattle.tables.specs.Checks.{all, same}
use Rattle.tables.proofs.Checks.{same_false}
use Rattle.vectors.specs.Least.{least_member, least_value, nonzero, under}

-- -a is 0 where a is
zero_entry : (a : ℤ) → same (neg_ℤ a) (pos 0) ≡ same a (pos 0)
zero_entry a =
    by_cases (ℤ_discrete a (pos 0)) (λ e. rw e refl)
    (λ d. same_false (λ e. d (order (a ∷ []) e (search solver depth 40 fits 20000) (omega arith))) ∙ sym (same_false d))

module _ (x y : ℕ → ℤ) (h : (i : ℕ) → y i ≡ neg_ℤ (x i)) where
  product : (i j : ℕ) → y i *ℤ y j ≡ x i *ℤ x j
  product i j = rw (h i, h j) (ring (x i ∷ x j ∷ []) (search solver depth 40 fits 20000) refl)

  least_member_lem : (L U : Matrix) (i j : ℕ) → least_member L U y i j ≡ least_member L U x i j
  unfolding least_member
  least_member_lem L U i j = ap (λ (z : ℤ). elim (eqb i j || lt_z (pos 0) z) as (λ b. ℤ) [ true ↦ L i j | false ↦ U i j ]) (product i j)

  least_value_lem : (n : ℕ) (L U : Matrix) → least_value n L U y ≡ least_value n L U x
  unfolding least_value form
  least_value_lem n L U =
      sum_ext n _ _ (λ i k. sum_ext n _ _ (λ j l.
      rw (least_member_lem L U i j, h i, h j) (ring (x i ∷ x j ∷ least_member L U x i j ∷ []) (search solver depth 40 fits 20000) refl)))

  all_zero : (n : ℕ) → all n (λ i. same (y i) (pos 0)) ≡ all n (λ i. same (x i) (pos 0))
  unfolding all
  all_zero zero = refl
  all_zero (suc n) = ap₂ (λ (a b : Bool). a && b) (all_zero n) (ap (λ (z : ℤ). same z (pos 0)) (h n) ∙ zero_entry (x n))

  norm : (n : ℕ) → norm_squared n y ≡ norm_squared n x
  unfolding norm_squared
  norm n = sum_ext n _ _ (λ i k. product i i)

  pub under_negated : (n : ℕ) (L U : Matrix) (w : ℤ) → under n L U w y ≡ under n L U w x
  unfolding under nonzero
  under_negated n L U w =
      ap₂ (λ (a b : Bool). not a && b) (all_zero n) (ap₂ (λ (v m : ℤ). le_z v (w *ℤ m)) (least_value_lem n L U) (norm n))
