-- R29.1 and R29.2 of docs/RULES.md: the scale k(0), .., k(n - 1), and tables whose rows and columns are scaled by powers of two.
use Rattle.std.specs.Prelude.{Bool, true, false, ◌&&◌, List, ℕ, zero, suc, ◌+◌, ◌^◌, ℤ, pos, ◌*ℤ◌}
use Rattle.std.specs.Int.Signed.{le_z}
use Rattle.tables.specs.Ranges.{entry_range}
use Rattle.tables.specs.Matrix.{Matrix, tabulate}
use Rattle.tables.specs.Checks.{all, within}

abbrev pub greatest_exponent : ℕ
greatest_exponent = 10

-- the greatest number from 0 to k that p holds of, and 0 where it holds of none
unfoldable pub greatest_of : (ℕ → Bool) → ℕ → ℕ
greatest_of p zero = 0
greatest_of p (suc k) = elim (p (suc k)) [ true ↦ suc k | false ↦ greatest_of p k ]

-- 4^k u ≤ 2^20
unfoldable pub stays_within : ℤ → ℕ → Bool
stays_within u k = le_z (pos (4 ^ k) *ℤ u) (pos entry_range)

-- R29.1: the k of a diagonal entry u of U
unfoldable pub exponent : ℤ → ℕ
exponent u = greatest_of (stays_within u) greatest_exponent

unfoldable pub exponents : Matrix → ℕ → ℕ
exponents U i = exponent (U i i)

-- the scale of order n, as it is written
unfoldable pub scale_of : ℕ → Matrix → List ℤ
scale_of n U = tabulate n (λ i. pos (exponents U i))

-- R29.2: each entry times 2^(k(i) + k(j))
unfoldable pub rescaled : (ℕ → ℕ) → Matrix → Matrix
rescaled k M i j = pos (2 ^ (k i + k j)) *ℤ M i j

-- the scaled tables of bounds L and U
abbrev pub scaled_low : Matrix → Matrix → Matrix
scaled_low L U = rescaled (exponents U) L

abbrev pub scaled_high : Matrix → Matrix
scaled_high U = rescaled (exponents U) U

-- the entries of a matrix of order n are inside of ±2^20
unfoldable pub entries_within : ℕ → Matrix → Bool
entries_within n M = all n (λ i. all n (λ j. within entry_range (M i j)))

-- R29.3: so are those of both scaled tables
unfoldable pub scaled_within : ℕ → Matrix → Matrix → Bool
scaled_within n L U = entries_within n (scaled_low L U) && entries_within n (scaled_high U)
