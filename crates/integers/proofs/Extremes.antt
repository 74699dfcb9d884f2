-- The smaller and the greater of two: the cases of the test, and sizes. The least of finitely many.
use mathlib.Core.Path.{◌≡◌, sym, ap, ap₂}
use mathlib.Core.Bool.{Bool, true, false}
use mathlib.Core.Logic.{by_cases}
use Prim.Native.Nat.{ℕ, zero, suc, ◌≤◌}
use native.Mathlib.Decide.{ℕ_discrete}
use native.Mathlib.Omega.{arith}
use lib.IntN.{ℤ}
use lib.Signed.{◌≤ℤ◌, ≤ℤ_refl, le_z}
use Rattle.integers.specs.Numbers.{Within, min_ℤ, max_ℤ, least_of}
use Rattle.integers.proofs.Parts.{≤ℤ_trans}
use Rattle.integers.proofs.Order.{min_by, max_by, min_≤ˡ, min_≤ʳ}

module _ (x y : ℤ) where
  pub min_first : le_z x y ≡ true → x ≡ min_ℤ x y
  unfolding min_ℤ
  min_first e = sym (ap (λ (b : Bool). elim b as (λ z. ℤ) [ true ↦ x | false ↦ y ]) e)

  pub min_second : le_z x y ≡ false → y ≡ min_ℤ x y
  unfolding min_ℤ
  min_second e = sym (ap (λ (b : Bool). elim b as (λ z. ℤ) [ true ↦ x | false ↦ y ]) e)

  pub max_first : le_z x y ≡ false → x ≡ max_ℤ x y
  unfolding max_ℤ
  max_first e = sym (ap (λ (b : Bool). elim b as (λ z. ℤ) [ true ↦ y | false ↦ x ]) e)

  pub max_second : le_z x y ≡ true → y ≡ max_ℤ x y
  unfolding max_ℤ
  max_second e = sym (ap (λ (b : Bool). elim b as (λ z. ℤ) [ true ↦ y | false ↦ x ]) e)

pub within_min : {m : ℕ} {x y : ℤ} → Within m x → Within m y → Within m (min_ℤ x y)
within_min {m} {x} {y} v w = min_by x y (Within m) (λ h. v) (λ h. w)

pub within_max : {m : ℕ} {x y : ℤ} → Within m x → Within m y → Within m (max_ℤ x y)
within_max {m} {x} {y} v w = max_by x y (Within m) (λ h. w) (λ h. v)

-- ---- the least of f 0, .., f n
-- it is one of them
pub least_by : (n : ℕ) (f : ℕ → ℤ) (P : ℤ → Type 0) → ((i : ℕ) → i ≤ n → P (f i)) → P (least_of n f)
unfolding least_of
least_by zero f P h = h 0 (omega arith)
least_by (suc n) f P h = min_by _ _ P (λ _. least_by n f P (λ i k. h i (omega arith))) (λ _. h (suc n) (omega arith))

-- and none is below it
pub least-≤ : (n : ℕ) (f : ℕ → ℤ) (i : ℕ) → i ≤ n → least_of n f ≤ℤ f i
unfolding least_of
least-≤ zero f i h = let e : i ≡ 0 = omega arith in rw e (≤ℤ_refl (f 0))
least-≤ (suc n) f i h =
    by_cases (ℕ_discrete i (suc n)) (λ e. rw e (min_≤ʳ (least_of n f) (f (suc n))))
    (λ d. ≤ℤ_trans (min_≤ˡ (least_of n f) (f (suc n))) (least-≤ n f i (omega arith)))

pub least_ext : (n : ℕ) (f g : ℕ → ℤ) → ((i : ℕ) → i ≤ n → f i ≡ g i) → least_of n f ≡ least_of n g
unfolding least_of
least_ext zero f g h = h 0 (omega arith)
least_ext (suc n) f g h = ap₂ min_ℤ (least_ext n f g (λ i k. h i (omega arith))) (h (suc n) (omega arith))
