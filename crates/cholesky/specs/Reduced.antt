-- Factoring row by row, by Schur complements in whole numbers: a matrix S of which only rows and columns from i on are left, S(i,j)
-- with i ≤ j alone.
use Rattle.std.specs.Prelude.{Bool, true, ◌&&◌, ℕ, zero, suc, ℤ, pos, ◌-ℤ◌, ◌*ℤ◌}
use Rattle.std.specs.Int.Signed.{le_z}
use Rattle.integers.specs.Division.{floor_div}
use Rattle.integers.specs.Root.{whole_root}
use Rattle.tables.specs.Matrix.{Matrix}
use Rattle.cholesky.specs.Factoring.{goes_on}

-- r(i,j): S(i,j) divided by the whole root of S(i,i), rounded down
unfoldable pub row_entry : Matrix → ℕ → ℕ → ℤ
row_entry S i j = floor_div (S i j) (whole_root (S i i))

-- the Schur complement: S(a,b) less r(i,a) r(i,b)
unfoldable pub reduced : Matrix → ℕ → Matrix
reduced S i a b = S a b -ℤ row_entry S i a *ℤ row_entry S i b

-- row i goes on in m columns from j on: each |r(i,j)| ≤ 2^26, and at least 1 is left of S(j,j)
unfoldable pub row_from : Matrix → ℕ → ℕ → ℕ → Bool
row_from S i j zero = true
row_from S i j (suc m) = goes_on (row_entry S i j) (reduced S i j j) && row_from S i (suc j) m

-- factoring ends in the m rows from i on
unfoldable pub ends_from : ℕ → Matrix → ℕ → Bool
ends_from zero S i = true
ends_from (suc m) S i = le_z (pos 1) (S i i) && (row_from S i (suc i) m && ends_from m (reduced S i) (suc i))
