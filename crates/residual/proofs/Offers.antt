-- Factors that have the same entries: check 6, the residual test, and what the rows have over.
use mathlib.Core.Path.{◌≡◌, ap, ap₂}
use Prim.Native.Nat.{ℕ, ◌<◌}
use lib.IntN.{ℤ, ◌-ℤ◌, ◌*ℤ◌}
use Rattle.integers.proofs.Sums.{sum_ext}
use Rattle.tables.specs.Matrix.{Matrix, gram}
use Rattle.cholesky.specs.Scale.{scale}
use Rattle.tables.proofs.Checks.{all_ext}
use Rattle.residual.specs.Residual.{residual, accepts, over}
use Rattle.residual.specs.FactorTest.{factor_entry, factor_shape}
use Rattle.residual.proofs.Rows.{rows_ext, least-over_ext}

-- check 6 reads the factor's first n rows and columns alone
pub shape_ext : (n : ℕ) (R S : Matrix) → ((i j : ℕ) → i < n → j < n → R i j ≡ S i j) → factor_shape n R ≡ factor_shape n S
unfolding factor_shape
shape_ext n R S h = all_ext n _ _ (λ i k. all_ext n _ _ (λ j m. ap (factor_entry i j) (h i j k m)))

-- and so does the residual test
module _ (n : ℕ) (R S L U : Matrix) (same : (i j : ℕ) → i < n → j < n → R i j ≡ S i j) where
  residual_ext : (M : Matrix) (i j : ℕ) → i < n → j < n → residual n R M i j ≡ residual n S M i j
  unfolding residual gram
  residual_ext M i j h k =
      ap (λ (z : ℤ). scale *ℤ M i j -ℤ z) (sum_ext n _ _ (λ l m. ap₂ (λ (u v : ℤ). u *ℤ v) (same l i m h) (same l j m k)))

  pub accepts_ext : accepts n R L U ≡ accepts n S L U
  unfolding accepts
  accepts_ext = rows_ext n _ _ _ _ (residual_ext L) (residual_ext U)

  pub over_ext : over n R L U ≡ over n S L U
  unfolding over
  over_ext = least-over_ext n _ _ _ _ (residual_ext L) (residual_ext U)
