-- A number that is known between two multiples, times another.
use mathlib.Core.Logic.{◌⊎◌, inl, inr}
use mathlib.Core.List.{[], ◌∷◌}
use native.Mathlib.Omega.{arith}
use lib.IntN.{ℤ, pos, ◌*ℤ◌}
use lib.Signed.{◌≤ℤ◌}
use Rattle.integers.specs.Numbers.{min_ℤ, max_ℤ}
use Rattle.integers.proofs.Parts.{*ℤ-nonneg, gap-nonneg}
use Rattle.integers.proofs.Solver.{◌&◌, order, solver}
use Rattle.integers.proofs.Order.{≤ℤ_total, *ℤ_mono, min_≤ˡ, min_≤ʳ, ≤_maxˡ, ≤_maxʳ}

-- q l ≤ z ≤ q u: z c lies from q times the smaller of l c and u c to q times the greater
module _ (q l u z c : ℤ) (nonneg : pos 0 ≤ℤ q) (low : (q *ℤ l) ≤ℤ z) (high : z ≤ℤ (q *ℤ u)) where
  pub times-high : (z *ℤ c) ≤ℤ (q *ℤ max_ℤ (l *ℤ c) (u *ℤ c))
  times-high = go (≤ℤ_total (pos 0) c)
    where
      go : (pos 0 ≤ℤ c) ⊎ (c ≤ℤ pos 0) → (z *ℤ c) ≤ℤ (q *ℤ max_ℤ (l *ℤ c) (u *ℤ c))
      go (inl h) =
          order (q ∷ u ∷ z ∷ c ∷ max_ℤ (l *ℤ c) (u *ℤ c) ∷ []) (*ℤ-nonneg (gap-nonneg high) h & *ℤ_mono nonneg (≤_maxʳ (l *ℤ c) (u *ℤ c)))
          (search solver depth 40 fits 20000) (omega arith)
      go (inr h) =
          order (q ∷ l ∷ z ∷ c ∷ max_ℤ (l *ℤ c) (u *ℤ c) ∷ [])
          (*ℤ-nonneg (gap-nonneg low) (gap-nonneg h) & *ℤ_mono nonneg (≤_maxˡ (l *ℤ c) (u *ℤ c)))
          (search solver depth 40 fits 20000) (omega arith)

  pub times-low : (q *ℤ min_ℤ (l *ℤ c) (u *ℤ c)) ≤ℤ (z *ℤ c)
  times-low = go (≤ℤ_total (pos 0) c)
    where
      go : (pos 0 ≤ℤ c) ⊎ (c ≤ℤ pos 0) → (q *ℤ min_ℤ (l *ℤ c) (u *ℤ c)) ≤ℤ (z *ℤ c)
      go (inl h) =
          order (q ∷ l ∷ z ∷ c ∷ min_ℤ (l *ℤ c) (u *ℤ c) ∷ []) (*ℤ-nonneg (gap-nonneg low) h & *ℤ_mono nonneg (min_≤ˡ (l *ℤ c) (u *ℤ c)))
          (search solver depth 40 fits 20000) (omega arith)
      go (inr h) =
          order (q ∷ u ∷ z ∷ c ∷ min_ℤ (l *ℤ c) (u *ℤ c) ∷ [])
          (*ℤ-nonneg (gap-nonneg high) (gap-nonneg h) & *ℤ_mono nonneg (min_≤ʳ (l *ℤ c) (u *ℤ c)))
          (search solver depth 40 fits 20000) (omega arith)
