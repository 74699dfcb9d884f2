-- R7 of docs/RULES.md: the residual of a factor, the row test, a Gerschgorin test of the residual, and what its rows have over.
use Rattle.std.specs.Prelude.{Bool, ℕ, zero, suc, ◌^◌, ℤ, pos, ◌+ℤ◌, ◌-ℤ◌, ◌*ℤ◌, ◌≤ℤ◌}
use Rattle.std.specs.Int.Signed.{le_z}
use Rattle.integers.specs.Numbers.{abs_ℤ, max_ℤ, least_of}
use Rattle.integers.specs.Sum.{sum_except}
use Rattle.tables.specs.Matrix.{Matrix, form, image, norm_squared, gram}
use Rattle.tables.specs.Members.{Member}
use Rattle.tables.specs.Checks.{all}
use Rattle.cholesky.specs.Scale.{scale}

-- R7.5: 2^32 M - P, at each i and j. The low table of the residual is that of L, the high one that of U.
unfoldable pub residual : ℕ → Matrix → Matrix → Matrix
residual n R M i j = scale *ℤ M i j -ℤ gram n R i j

-- ---- the row test of a residual, whose tables are A (low) and B (high)
-- the radius at (i,j): max(|A(i,j)|, |B(i,j)|)
unfoldable pub radius : Matrix → Matrix → Matrix
radius A B i j = max_ℤ (abs_ℤ (A i j)) (abs_ℤ (B i j))

-- R7.2: row i passes, where A(i,i) is not below the radii of the row, added up over j ≠ i
unfoldable pub row_passes : ℕ → Matrix → Matrix → ℕ → Bool
row_passes n A B i = le_z (sum_except n i (radius A B i)) (A i i)

unfoldable pub rows_pass : ℕ → Matrix → Matrix → Bool
rows_pass n A B = all n (row_passes n A B)

-- R7.3: the factor R is accepted for the bounds L and U, where the rows of its residual pass
unfoldable pub accepts : ℕ → Matrix → Matrix → Matrix → Bool
accepts n R L U = rows_pass n (residual n R L) (residual n R U)

-- ---- what the rows have over
-- R7.7: of row i, its left side less its right side
unfoldable pub row_over : ℕ → Matrix → Matrix → ℕ → ℤ
row_over n A B i = A i i -ℤ sum_except n i (radius A B i)

-- the least over all rows; 0 of none
unfoldable pub least_over : ℕ → Matrix → Matrix → ℤ
least_over zero A B = pos 0
least_over (suc m) A B = least_of m (row_over (suc m) A B)

-- of the factor R for the bounds L and U
unfoldable pub over : ℕ → Matrix → Matrix → Matrix → ℤ
over n R L U = least_over n (residual n R L) (residual n R U)

-- it is below this in magnitude
abbrev pub over_limit : ℕ
over_limit = 2 ^ 60

-- D3.8: 2^32 x'Mx ≥ v x'x + |Rx|² for every member M = N over q and every x
pub record FormBound (n : ℕ) (R L U : Matrix) (v : ℤ) : Type 0 where
  pub bound : (N : Matrix) (q : ℤ) → Member n L U N q → (x : ℕ → ℤ) →
      (q *ℤ (v *ℤ norm_squared n x +ℤ norm_squared n (image n R x))) ≤ℤ (scale *ℤ form n N x)
