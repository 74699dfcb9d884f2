-- Products of two numbers that are each known between two whole numbers.
use mathlib.Core.List.{[], ◌∷◌}
use native.Mathlib.Omega.{arith}
use lib.IntN.{ℤ, pos, ◌*ℤ◌}
use lib.Signed.{◌≤ℤ◌}
use Rattle.integers.specs.Numbers.{min_ℤ, max_ℤ}
use Rattle.integers.proofs.Solver.{◌&◌, order, solver}
use Rattle.integers.proofs.Order.{*ℤ_mono, min_by, max_by, min_≤ˡ, min_≤ʳ, ≤_maxˡ, ≤_maxʳ}
use Rattle.arithmetic.proofs.Between.{times-low, times-high}

-- x from w a to w b, y from w c to w d
module _ (w a b c d x y : ℤ) (nonneg : pos 0 ≤ℤ w) (xl : (w *ℤ a) ≤ℤ x) (xh : x ≤ℤ (w *ℤ b)) (yl : (w *ℤ c) ≤ℤ y) (yh : y ≤ℤ (w *ℤ d)) where
  abbrev least : ℤ
  least = min_ℤ (min_ℤ (c *ℤ a) (d *ℤ a)) (min_ℤ (c *ℤ b) (d *ℤ b))

  abbrev greatest : ℤ
  greatest = max_ℤ (max_ℤ (c *ℤ a) (d *ℤ a)) (max_ℤ (c *ℤ b) (d *ℤ b))

  pub product_low : (w *ℤ w *ℤ least) ≤ℤ (x *ℤ y)
  product_low =
      order (w ∷ x ∷ y ∷ least ∷ min_ℤ (a *ℤ y) (b *ℤ y) ∷ [])
      (times-low w a b x y nonneg xl xh & *ℤ_mono nonneg (min_by (a *ℤ y) (b *ℤ y) (λ z. (w *ℤ least) ≤ℤ z) (λ h. first) (λ h. second)))
      (search solver depth 40 fits 20000) (omega arith)
    where
      first : (w *ℤ least) ≤ℤ (a *ℤ y)
      first = order (w ∷ a ∷ y ∷ least ∷ min_ℤ (c *ℤ a) (d *ℤ a) ∷ [])
          (times-low w c d y a nonneg yl yh & *ℤ_mono nonneg (min_≤ˡ (min_ℤ (c *ℤ a) (d *ℤ a)) (min_ℤ (c *ℤ b) (d *ℤ b))))
          (search solver depth 40 fits 20000) (omega arith)

      second : (w *ℤ least) ≤ℤ (b *ℤ y)
      second = order (w ∷ b ∷ y ∷ least ∷ min_ℤ (c *ℤ b) (d *ℤ b) ∷ [])
          (times-low w c d y b nonneg yl yh & *ℤ_mono nonneg (min_≤ʳ (min_ℤ (c *ℤ a) (d *ℤ a)) (min_ℤ (c *ℤ b) (d *ℤ b))))
          (search solver depth 40 fits 20000) (omega arith)

  pub product_high : (x *ℤ y) ≤ℤ (w *ℤ w *ℤ greatest)
  product_high =
      order (w ∷ x ∷ y ∷ greatest ∷ max_ℤ (a *ℤ y) (b *ℤ y) ∷ [])
      (times-high w a b x y nonneg xl xh & *ℤ_mono nonneg (max_by (a *ℤ y) (b *ℤ y) (λ z. z ≤ℤ (w *ℤ greatest)) (λ h. second) (λ h. first)))
      (search solver depth 40 fits 20000) (omega arith)
    where
      first : (a *ℤ y) ≤ℤ (w *ℤ greatest)
      first = order (w ∷ a ∷ y ∷ greatest ∷ max_ℤ (c *ℤ a) (d *ℤ a) ∷ [])
          (times-high w c d y a nonneg yl yh & *ℤ_mono nonneg (≤_maxˡ (max_ℤ (c *ℤ a) (d *ℤ a)) (max_ℤ (c *ℤ b) (d *ℤ b))))
          (search solver depth 40 fits 20000) (omega arith)

      second : (b *ℤ y) ≤ℤ (w *ℤ greatest)
      second = order (w ∷ b ∷ y ∷ greatest ∷ max_ℤ (c *ℤ b) (d *ℤ b) ∷ [])
          (times-high w c d y b nonneg yl yh & *ℤ_mono nonneg (≤_maxʳ (max_ℤ (c *ℤ a) (d *ℤ a)) (max_ℤ (c *ℤ b) (d *ℤ b))))
          (search solver depth 40 fits 20000) (omega arith)
