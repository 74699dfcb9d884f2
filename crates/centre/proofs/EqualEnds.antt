-- Linear terms whose ends are equal: g(k) and D are those of the one a that is left.
use mathlib.Core.Path.{◌≡◌, refl, ap}
use Prim.Native.Nat.{ℕ}
use lib.IntN.{ℤ, pos, ◌+ℤ◌, ◌-ℤ◌, ◌*ℤ◌}
use Rattle.integers.specs.Numbers.{abs_ℤ, min_ℤ, max_ℤ}
use Rattle.integers.specs.Sum.{sum}
use Rattle.integers.proofs.Order.{min_by}
use Rattle.integers.proofs.Sums.{sum_ext}
use Rattle.tables.specs.Matrix.{Matrix}
use Rattle.tables.specs.Members.{Ends}
use Rattle.vectors.specs.Least.{least_value}
use Rattle.centre.specs.Centre.{least_sum, low_gradient, high_gradient, gradient, at_centre}

abbrev pub only : (ℕ → ℤ) → Ends
only a = record { low = a; high = a }

-- nothing is left to choose
least-of-one : (n : ℕ) (a c : ℕ → ℤ) → least_sum n a a c ≡ sum n (λ k. a k *ℤ c k)
least-of-one n a c = sum_ext n _ _ (λ k h. min_by (a k *ℤ c k) (a k *ℤ c k) (λ z. z ≡ a k *ℤ c k) (λ l. refl) (λ l. refl))

module _ (n : ℕ) (L U : Matrix) (a c : ℕ → ℤ) where
  -- D = α - 2 Σ a(k) c(k) - least(c)
  pub at-centre-only : (α : ℤ) → at_centre n L U (only a) c α ≡ α -ℤ pos 2 *ℤ sum n (λ k. a k *ℤ c k) -ℤ least_value n L U c
  unfolding at_centre
  at-centre-only α = ap (λ (z : ℤ). α -ℤ pos 2 *ℤ z -ℤ least_value n L U c) (least-of-one n a c)

  -- g(k), with a(k) added to both sums
  pub gradient-only : (k : ℕ) → gradient n L U (only a) c k ≡
      max_ℤ (abs_ℤ (sum n (λ j. min_ℤ (L k j *ℤ c j) (U k j *ℤ c j)) +ℤ a k)) (abs_ℤ (sum n (λ j. max_ℤ (L k j *ℤ c j) (U k j *ℤ c j)) +ℤ a k))
  unfolding gradient low_gradient high_gradient
  gradient-only k = refl
