-- How the code works the residual out: in the scratch tables that hold the bounds, column by column, each pair (i, j) and (j, i) once.
use Rattle.std.specs.Prelude.{◌≡◌, true, List, ℕ, zero, suc, ◌+◌, ◌*◌, ◌≤◌, ◌<◌, ℤ, ◌-ℤ◌, ◌*ℤ◌, ◌≤ℤ◌, length, set}
use Rattle.integers.specs.Numbers.{Within}
use Rattle.integers.specs.Sum.{sum}
use Rattle.tables.specs.Ranges.{greatest_order, table_room, entry_range}
use Rattle.tables.specs.Matrix.{Matrix, at}
use Rattle.tables.specs.Bounds.{CheckedTables}
use Rattle.tables.specs.Entering.{Rooms}
use Rattle.cholesky.specs.Scale.{scale}
use Rattle.cholesky.specs.Rows.{product_range}
use Rattle.residual.specs.FactorTest.{factor_shape}

-- ---- sizes: P(i,j), a sum of products of two entries of a factor; and 2^32 M(i,j) - P(i,j), where 2^32 M(i,j) is as small as one of them
abbrev pub gram_range : ℕ
gram_range = greatest_order * product_range

abbrev pub residual_range : ℕ
residual_range = (greatest_order + 1) * product_range

-- what a row has over: an entry of the residual less radii, fewer than n of them
abbrev pub over_range : ℕ
over_range = (greatest_order + 1) * residual_range

-- a factor of order n that passed check 6
pub record Shaped (n : ℕ) (f : List ℤ) : Type 0 where
  pub order : n ≤ greatest_order
  pub size : n * n ≤ length f
  pub shape : factor_shape n (at n f) ≡ true

-- and scratch tables with bounds that passed checks 3 to 5
pub record Offer (n : ℕ) (l u f : List ℤ) : Type 0 where
  pub factor : Shaped n f
  pub rooms : Rooms l u
  pub tables : CheckedTables n l u

-- ---- from the bounds to the residual
-- P(i,j), for i ≤ j: entries below the diagonal are 0
unfoldable pub gram_at : Matrix → Matrix
gram_at R i j = sum (suc i) (λ k. R k i *ℤ R k j)

-- a scratch table in which the pair (i, j) still has an entry of a bound
pub record Unturned (n : ℕ) (t : List ℤ) (i j : ℕ) : Type 0 where
  pub size : length t ≡ table_room
  pub entry : Within entry_range (at n t i j)

-- one in which all of column j has, down to the diagonal
abbrev pub UnturnedColumn : ℕ → List ℤ → ℕ → Type 0
UnturnedColumn n t j = (i : ℕ) → i ≤ j → Unturned n t i j

-- 2^32 M - p, of the entry M at (i, j), in both places of the pair
abbrev pub turned_pair : ℕ → List ℤ → ℕ → ℕ → ℤ → List ℤ
turned_pair n t i j p = let x : ℤ = scale *ℤ at n t i j -ℤ p in set (set t (i * n + j) x) (j * n + i) x

-- with P(i,j), of the first m pairs of column j
unfoldable pub turned_column : ℕ → Matrix → List ℤ → ℕ → ℕ → List ℤ
turned_column n R t j zero = t
turned_column n R t j (suc i) = turned_pair n (turned_column n R t j i) i j (gram_at R i j)

-- of the first m columns down to the diagonal
unfoldable pub turned : ℕ → Matrix → List ℤ → ℕ → List ℤ
turned n R t zero = t
turned n R t (suc j) = turned_column n R (turned n R t j) j (suc j)

-- ---- the rows of a residual
-- what holds of its tables A and B, of order n
pub record Ranged (n : ℕ) (A B : Matrix) : Type 0 where
  pub order : n ≤ greatest_order
  pub low : (i j : ℕ) → i < n → j < n → Within residual_range (A i j)
  pub high : (i j : ℕ) → i < n → j < n → Within residual_range (B i j)
  pub ordered : (i j : ℕ) → i < n → j < n → A i j ≤ℤ B i j

-- scratch tables of order n that hold a residual
pub record Residue (n : ℕ) (a b : List ℤ) : Type 0 where
  pub rooms : Rooms a b
  pub ranged : Ranged n (at n a) (at n b)
