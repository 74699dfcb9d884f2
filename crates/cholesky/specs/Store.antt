-- How the code keeps an upper triangular matrix: entry (i, j) at stride j + i, so that a column lies in one piece.
use Rattle.std.specs.Prelude.{true, false, ◌≡◌, List, ℕ, suc, ◌+◌, ◌*◌, ◌<◌, leb, ℤ, pos, length, Result, Ok, Err, ⊤}
use Rattle.integers.specs.Numbers.{Within}
use Rattle.tables.specs.Ranges.{greatest_order, factor_range}
use Rattle.tables.specs.Matrix.{Matrix, nth, tabulate}
use Rattle.cholesky.specs.Factoring.{Factoring}
use Rattle.cholesky.specs.declared.factoring.Stop.{Stop}

abbrev pub stride : ℕ
stride = greatest_order

unfoldable pub upper : List ℤ → Matrix
upper t i j = nth t (stride * j + i)

-- the upper triangular matrix: 0 below the diagonal
unfoldable pub triangle : List ℤ → Matrix
triangle t i j = elim (leb i j) [ true ↦ upper t i j | false ↦ pos 0 ]

-- the first m entries of column j
unfoldable pub column_of : List ℤ → ℕ → ℕ → List ℤ
column_of t j m = tabulate m (λ k. upper t k j)

-- the first j columns, each down to the diagonal
unfoldable pub columns_of : List ℤ → ℕ → List (List ℤ)
columns_of t j = tabulate j (λ l. column_of t l (suc l))

-- a factoring ends, or it stops in column j after m rows
abbrev pub Outcome : Type 0
Outcome = Result ⊤ Stop

abbrev pub Ends : Outcome
Ends = Ok tt

abbrev pub Stops : ℕ → ℕ → Outcome
Stops j m = Err (record { column = j; rows = m })

-- the end of a factoring, or the column and the number of rows at its stop, columns counted from 0
unfoldable pub outcome_of : Factoring → Outcome
outcome_of f = elim f.ends [ true ↦ Ends | false ↦ Stops (length f.columns) (length f.stopped) ]

-- the answer is the factoring's, and its columns stand in the table
pub record Stored (f : Factoring) (o : Outcome) (t : List ℤ) : Type 0 where
  pub outcome : o ≡ outcome_of f
  pub columns : columns_of t (length f.columns) ≡ f.columns
  pub stopped : column_of t (length f.columns) (length f.stopped) ≡ f.stopped

-- the first m entries of column j are within a factor's range
pub record SmallColumn (t : List ℤ) (j m : ℕ) : Type 0 where
  pub small : (k : ℕ) → k < m → Within factor_range (upper t k j)
