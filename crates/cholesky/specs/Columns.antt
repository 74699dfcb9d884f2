-- The column step on a table of entry (i, j) at stride j + i: the columns before j are those of a factor, column j is that of the
-- matrix, and becomes the factor's.
use Rattle.std.specs.Prelude.{◌≡◌, true, false, List, ℕ, suc, ◌≤◌, ◌<◌, ℤ, pos, ◌-ℤ◌, ◌*ℤ◌, ◌≤ℤ◌, length, Result, Ok, Err, ⊤}
use Rattle.integers.specs.Numbers.{Within}
use Rattle.integers.specs.Sum.{sum}
use Rattle.integers.specs.Division.{floor_div}
use Rattle.tables.specs.Ranges.{greatest_order, table_room}
use Rattle.tables.specs.Matrix.{Matrix}
use Rattle.cholesky.specs.Factoring.{Column, goes_on}
use Rattle.cholesky.specs.Store.{upper, column_of, SmallColumn}
use Rattle.cholesky.specs.Rows.{product_range}

-- so small that 64 bits hold the step
pub record ColumnReady (s : List ℤ) (j : ℕ) : Type 0 where
  pub size : length s ≡ table_room
  pub inside : j < greatest_order
  pub columns : (l : ℕ) → l < j → SmallColumn s l (suc l)
  pub diagonal : (l : ℕ) → l < j → pos 1 ≤ℤ upper s l l
  pub off : (k : ℕ) → k < j → Within product_range (upper s k j)
  pub top : upper s j j ≤ℤ pos product_range

-- ---- the rows above the diagonal
-- what the first m rows of R leave of H: H(a,b) - Σ r(k,a) r(k,b), k < m
unfoldable pub left_by : Matrix → Matrix → ℕ → Matrix
left_by H R m a b = H a b -ℤ sum m (λ k. R k a *ℤ R k b)

-- R(i,j) is the entry that column j of H has in row i, after the rows before it
abbrev pub IsNext : Matrix → Matrix → ℕ → ℕ → Type 0
IsNext H R i j = R i j ≡ floor_div (left_by H R i i j) (R i i)

-- column j of H goes on in the rows before i, and R has its entries
pub record ColumnGoes (H R : Matrix) (j i : ℕ) : Type 0 where
  pub top : pos 1 ≤ℤ H j j
  pub entries : (k : ℕ) → k < i → IsNext H R k j
  pub tests : (k : ℕ) → k < i → goes_on (R k j) (left_by H R (suc k) j j) ≡ true

-- column j, and no other, was worked out to row r, which stopped, or to row j
pub record RowsTaken (s : List ℤ) (j r : ℕ) (s' : List ℤ) : Type 0 where
  pub bound : r ≤ j
  pub size : length s' ≡ table_room
  pub above : ColumnGoes (upper s) (upper s') j r
  pub stop : r < j → IsNext (upper s) (upper s') r j × (goes_on (upper s' r j) (left_by (upper s) (upper s') (suc r) j j) ≡ false)
  pub rest : j ≤ r → upper s' j j ≡ left_by (upper s) (upper s') j j j
  pub kept : (k l : ℕ) → k < greatest_order → (l ≡ j → ⊥) → upper s' k l ≡ upper s k l

-- ---- the column
-- it is done, or it stops after m rows
abbrev pub Step : Type 0
Step = Result ⊤ ℕ

abbrev pub Done : Step
Done = Ok tt

abbrev pub Stops : ℕ → Step
Stops m = Err m

-- how it came out
unfoldable pub step_of : Column → Step
step_of c = elim c.done [ true ↦ Done | false ↦ Stops (length c.column) ]

-- the column c is the one that the answer tells of, and its entries stand in column j
pub record ColumnWorked (c : Column) (j : ℕ) (r : Step) (s : List ℤ) : Type 0 where
  pub answer : r ≡ step_of c
  pub size : length s ≡ table_room
  pub column : column_of s j (length c.column) ≡ c.column
