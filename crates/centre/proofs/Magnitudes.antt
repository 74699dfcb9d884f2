-- The bounds at the centre: how large each number gets.
use mathlib.Core.Path.{◌≡◌}
use mathlib.Core.Bool.{true}
use mathlib.Core.List.{List}
use Prim.Native.Nat.{ℕ, ◌+◌, ◌*◌, ◌≤◌, ◌<◌}
use native.Mathlib.Omega.{arith}
use lib.IntN.{ℤ, pos, ◌+ℤ◌, ◌-ℤ◌, ◌*ℤ◌}
use lib.Signed.{◌≤ℤ◌, le_z}
use mir.Syntax.{w64}
use mir.Val.{SFits}
use Rattle.integers.specs.Numbers.{Within, abs_ℤ, min_ℤ}
use Rattle.integers.specs.Sum.{sum}
use Rattle.integers.proofs.Parts.{≤ℤ_trans}
use Rattle.integers.proofs.Order.{abs-nonneg, ≤_maxˡ}
use Rattle.integers.proofs.Machine.{within_more, within-+, within--, within-*, within-sum, fits_within}
use Rattle.tables.specs.Ranges.{greatest_order, centre_range, linear_range, limit_range, gradient_range}
use Rattle.tables.specs.Matrix.{at, nth}
use Rattle.tables.specs.Members.{Ends}
use Rattle.tables.specs.Problem.{ends_of}
use Rattle.tables.specs.Bounds.{CheckedTables}
use Rattle.tables.specs.Checks.{all}
use Rattle.tables.proofs.CheckedTables.{low-within, high-within}
use Rattle.tables.proofs.Checks.{all-at, le_of}
use Rattle.vectors.specs.LeastShares.{VectorEntries}
use Rattle.vectors.proofs.Showing.{least_value_within}
use Rattle.integers.proofs.Extremes.{within_min}
use Rattle.arithmetic.proofs.Products.{two-within}
use Rattle.centre.specs.Centre.{least_sum, low_gradient, gradient, at_centre}
use Rattle.centre.specs.Required.{row_term_range, linear_term_range, form_term_range, LinearTerms}

-- a product of row k: the one that is picked, the smaller or the greater
abbrev pub picked : (ℤ → ℤ → ℤ) → ℕ → List ℤ → List ℤ → List ℤ → ℕ → ℕ → ℤ
picked pick n l u c k j = pick (at n l k j *ℤ nth c j) (at n u k j *ℤ nth c j)

-- ---- the linear terms
module _ {n : ℕ} {a b c : List ℤ} (q : LinearTerms n a b c) where
  module _ {k : ℕ} (h : k < n) where
    pub low_term_fits : SFits w64 (nth a k *ℤ nth c k)
    low_term_fits = fits_within (within-* (q.low k h) (q.centre k h)) (omega arith)

    pub high_term_fits : SFits w64 (nth b k *ℤ nth c k)
    high_term_fits = fits_within (within-* (q.high k h) (q.centre k h)) (omega arith)

    least-within : Within linear_term_range (min_ℤ (nth a k *ℤ nth c k) (nth b k *ℤ nth c k))
    least-within = within_min (within-* (q.low k h) (q.centre k h)) (within-* (q.high k h) (q.centre k h))

  pub least-sum-within : (k : ℕ) → k ≤ n → Within (greatest_order * linear_term_range) (least_sum k (nth a) (nth b) (nth c))
  least-sum-within k m = within_more (omega (arith, q.order)) (within-sum k linear_term_range _ (λ i p. least-within (omega arith)))

  -- the next product added up
  pub least_fits : {k : ℕ} → k < n → SFits w64 (least_sum k (nth a) (nth b) (nth c) +ℤ min_ℤ (nth a k *ℤ nth c k) (nth b k *ℤ nth c k))
  least_fits {k} h = fits_within (within-+ (least-sum-within k (omega arith)) (least-within h)) (omega arith)

  twice_within : Within (2 * (greatest_order * linear_term_range)) (pos 2 *ℤ least_sum n (nth a) (nth b) (nth c))
  twice_within = within-* two-within (least-sum-within n (omega arith))

  pub twice_fits : SFits w64 (pos 2 *ℤ least_sum n (nth a) (nth b) (nth c))
  twice_fits = fits_within twice_within (omega arith)

  -- the centre is a vector
  pub centre-entries : VectorEntries n c
  centre-entries = record { vector-length = q.centre-length; entries = λ k h. within_more (omega arith) (q.centre k h) }

-- ---- with bounds
module _ {n : ℕ} {l u a b c : List ℤ} (t : CheckedTables n l u) (q : LinearTerms n a b c) where
  -- ---- the gradients
  module _ {k : ℕ} (h : k < n) where
    module _ {j : ℕ} (m : j < n) where
      low_within : Within row_term_range (at n l k j *ℤ nth c j)
      low_within = within-* (low-within t h m) (q.centre j m)

      high_within : Within row_term_range (at n u k j *ℤ nth c j)
      high_within = within-* (high-within t h m) (q.centre j m)

      pub low_product_fits : SFits w64 (at n l k j *ℤ nth c j)
      low_product_fits = fits_within low_within (omega arith)

      pub high_product_fits : SFits w64 (at n u k j *ℤ nth c j)
      high_product_fits = fits_within high_within (omega arith)

    module _ (pick : ℤ → ℤ → ℤ)
        (sized : (x y : ℤ) → Within row_term_range x → Within row_term_range y → Within row_term_range (pick x y)) where
      picked-within : {j : ℕ} → j < n → Within row_term_range (picked pick n l u c k j)
      picked-within m = sized _ _ (low_within m) (high_within m)

      picked-sum : (j : ℕ) → j ≤ n → Within (greatest_order * row_term_range) (sum j (picked pick n l u c k))
      picked-sum j m = within_more (omega (arith, t.order)) (within-sum j row_term_range _ (λ i p. picked-within (omega arith)))

      -- the next product added up
      pub picked_fits : {j : ℕ} → j < n → SFits w64 (sum j (picked pick n l u c k) +ℤ picked pick n l u c k j)
      picked_fits {j} m = fits_within (within-+ (picked-sum j (omega arith)) (picked-within m)) (omega arith)

      -- an end of a(k) added at last
      pub picked-row : {z : ℤ} → Within linear_range z →
          Within (greatest_order * row_term_range + linear_range) (sum n (picked pick n l u c k) +ℤ z)
      picked-row w = within-+ (picked-sum n (omega arith)) w

  -- ---- D
  module _ {α : ℤ} (w : Within limit_range α) where
    limit-within : Within (limit_range + 2 * (greatest_order * linear_term_range)) (α -ℤ pos 2 *ℤ least_sum n (nth a) (nth b) (nth c))
    limit-within = within-- w (twice_within q)

    pub limit_fits : SFits w64 (α -ℤ pos 2 *ℤ least_sum n (nth a) (nth b) (nth c))
    limit_fits = fits_within limit-within (omega arith)

    pub centre-within : Within
        (limit_range + 2 * (greatest_order * linear_term_range) + greatest_order * (greatest_order * form_term_range))
        (at_centre n (at n l) (at n u) (ends_of a b) (nth c) α)
    unfolding at_centre
    centre-within = within-- limit-within (least_value_within t.bounds (nth c) t.order centre_range q.centre)

-- a gradient is not negative
pub gradient-nonneg : (n : ℕ) (L U : ℕ → ℕ → ℤ) (a : Ends) (c : ℕ → ℤ) (k : ℕ) → pos 0 ≤ℤ gradient n L U a c k
unfolding gradient
gradient-nonneg n L U a c k = ≤ℤ_trans (abs-nonneg _) (≤_maxˡ (abs_ℤ (low_gradient n L U a c k)) _)

-- and not above its range where it is let through
pub near_within : (n : ℕ) (g : ℕ → ℤ) → all n (λ k. le_z (g k) (pos gradient_range)) ≡ true → (k : ℕ) → k < n → g k ≤ℤ pos gradient_range
near_within n g e k h = le_of (g k) (pos gradient_range) (all-at _ n e k h)
