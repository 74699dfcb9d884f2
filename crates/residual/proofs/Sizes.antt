-- How large the numbers of a residual are.
use mathlib.Core.Path.{◌≡◌}
use mathlib.Core.Bool.{true}
use mathlib.Core.List.{List, [], ◌∷◌}
use Prim.Native.Nat.{ℕ, suc, ◌*◌, ◌^◌, ◌≤◌, ◌<◌}
use native.Mathlib.Omega.{arith}
use lib.IntN.{ℤ, ◌+ℤ◌, ◌-ℤ◌, ◌*ℤ◌}
use mir.Syntax.{w64}
use mir.Val.{SFits}
use Rattle.integers.specs.Numbers.{Within}
use Rattle.integers.specs.Sum.{sum}
use Rattle.integers.proofs.Machine.{within_more, within-+, within--, within-*, within-sum, fits_within}
use Rattle.integers.proofs.Solver.{order, solver}
use Rattle.tables.specs.Ranges.{greatest_order, entry_range}
use Rattle.tables.specs.Matrix.{Matrix, at, gram}
use Rattle.tables.specs.Bounds.{Bounds}
use Rattle.cholesky.specs.Scale.{scale}
use Rattle.cholesky.specs.Rows.{product_range}
use Rattle.residual.specs.Residual.{residual, over}
use Rattle.residual.specs.FactorTest.{factor_shape}
use Rattle.residual.specs.Scratch.{Shaped, gram_at, gram_range, residual_range, over_range, Ranged}
use Rattle.residual.proofs.OfferedFactor.{factor-within}
use Rattle.residual.proofs.Rows.{least-over-within}

-- ---- 2^32 x - p, of an entry x of a bound
scaled-within : {x : ℤ} → Within entry_range x → Within product_range (scale *ℤ x)
scaled-within w = let s : Within (2 ^ 32) scale = record { size = omega arith } in within_more (omega arith) (within-* s w)

pub scaled_fits : {x : ℤ} → Within entry_range x → SFits w64 (scale *ℤ x)
scaled_fits w = fits_within (scaled-within w) (omega arith)

residual-within : {x p : ℤ} → Within entry_range x → Within gram_range p → Within residual_range (scale *ℤ x -ℤ p)
residual-within w v = within_more (omega arith) (within-- (scaled-within w) v)

pub residual_fits : {x p : ℤ} → Within entry_range x → Within gram_range p → SFits w64 (scale *ℤ x -ℤ p)
residual_fits w v = fits_within (residual-within w v) (omega arith)

-- ---- an offered factor's products
module _ {n : ℕ} {f : List ℤ} (s : Shaped n f) where
  product_within : {i j : ℕ} (k : ℕ) → i ≤ j → j < n → k ≤ i → Within product_range (at n f k i *ℤ at n f k j)
  product_within {i} {j} k h m q =
      within_more (omega arith)
      (within-* (factor-within n (at n f) s.shape k i (omega arith) (omega arith))
      (factor-within n (at n f) s.shape k j (omega arith) m))

  pub product_fits : {i j : ℕ} (k : ℕ) → i ≤ j → j < n → k ≤ i → SFits w64 (at n f k i *ℤ at n f k j)
  product_fits k h m q = fits_within (product_within k h m q) (omega arith)

  products-within : {i j : ℕ} (k : ℕ) → i ≤ j → j < n → k ≤ suc i → Within (k * product_range) (sum k (λ l. at n f l i *ℤ at n f l j))
  products-within k h m q = within-sum k product_range _ (λ l p. product_within l h m (omega arith))

  pub products_fit : {i j : ℕ} (k : ℕ) → i ≤ j → j < n → k ≤ i →
      SFits w64 (sum k (λ l. at n f l i *ℤ at n f l j) +ℤ at n f k i *ℤ at n f k j)
  products_fit k h m q =
      let small = s.order in fits_within (within-+ (products-within k h m (omega arith)) (product_within k h m q)) (omega arith)

  pub gram-within : {i j : ℕ} → i ≤ j → j < n → Within gram_range (gram_at (at n f) i j)
  unfolding gram_at
  gram-within {i} h k = let small = s.order in within_more (omega arith) (products-within (suc i) h k (omega arith))

-- ---- the residual of any factor that passes check 6, for bounds that pass the checks
module _ (n : ℕ) (R : Matrix) (o : n ≤ greatest_order) (e : factor_shape n R ≡ true) where
  gram-small : (i j : ℕ) → i < n → j < n → Within gram_range (gram n R i j)
  unfolding gram
  gram-small i j h k =
      within_more (omega arith)
      (within-sum n product_range _
      (λ l m. within_more (omega arith) (within-* (factor-within n R e l i m h) (factor-within n R e l j m k))))

  pub residual-ranged : (L U : Matrix) → Bounds n L U → Ranged n (residual n R L) (residual n R U)
  unfolding residual
  residual-ranged L U b = record {
    order = o;
    low = λ i j h k. residual-within {x = L i j} (record { size = b.low_range i j h k }) (gram-small i j h k);
    high = λ i j h k. residual-within {x = U i j} (record { size = b.high_range i j h k }) (gram-small i j h k);
    ordered = λ i j h k. order (L i j ∷ U i j ∷ gram n R i j ∷ []) (b.ordered i j h k) (search solver depth 40 fits 20000) (omega arith);
  }

  -- R7.7: the size of what the rows have over
  pub over-within : (L U : Matrix) → Bounds n L U → Within over_range (over n R L U)
  unfolding over
  over-within L U b = least-over-within (residual-ranged L U b)
