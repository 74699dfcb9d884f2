-- What the code asks of the table of a factoring that stopped, and what it answers.
use Rattle.std.specs.Prelude.{false, List, [], ◌∷◌, Option, Some, None, ℕ, suc, ◌+◌, ◌*◌, ◌-◌, ◌≤◌, ◌<◌, ℤ, pos, neg_ℤ, ◌+ℤ◌, ◌*ℤ◌, ◌≤ℤ◌}
use Rattle.integers.specs.Numbers.{Within}
use Rattle.integers.specs.Sum.{sum}
use Rattle.integers.specs.Division.{floor_div}
use Rattle.tables.specs.Ranges.{greatest_order, factor_range, vector_range}
use Rattle.tables.specs.Matrix.{nth, tabulate}
use Rattle.cholesky.specs.Factoring.{Factoring}
use Rattle.cholesky.specs.Store.{upper, column_of, columns_of, SmallColumn}
use Rattle.cholesky.specs.Rows.{product_range}

-- the factoring that stopped in column j after m rows, by its table
unfoldable pub stopped_at : List ℤ → ℕ → ℕ → Factoring
stopped_at t j m = record { ends = false; columns = columns_of t j; stopped = column_of t j m }

-- an entry of the column that it stops in: H(i,j), less a product for each row before i, divided
abbrev pub stop_range : ℕ
stop_range = greatest_order * product_range

-- the greatest s
abbrev pub start_range : ℕ
start_range = 64

-- t is the table of a factoring of order n that stopped in column j after m rows: the columns before j are those of a factor, and
-- column j is within stop_range. So every number fits 64 bits: T is a product of stop_range and start_range, and one of an entry of a
-- factor and one of a vector for each column before j.
pub record Stopped (n : ℕ) (t : List ℤ) (j m : ℕ) : Type 0 where
  pub order : n ≤ greatest_order
  pub inside : j < n
  pub rows : m ≤ j
  pub columns : (l : ℕ) → l < j → SmallColumn t l (suc l)
  pub diagonal : (l : ℕ) → l < j → pos 1 ≤ℤ upper t l l
  pub last : (i : ℕ) → i < m → Within stop_range (upper t i j)

-- row i of the table, and the entries of x that it meets: those before column j are small, r(i,j) is an entry of a stop and x(j)
-- within the range of s
pub record Ready (t x : List ℤ) (i j : ℕ) : Type 0 where
  pub inside : j < greatest_order
  pub before : i < j
  pub diagonal : pos 1 ≤ℤ upper t i i
  pub row : (k : ℕ) → i ≤ k → k < j → Within factor_range (upper t i k)
  pub last : Within stop_range (upper t i j)
  pub entries : (k : ℕ) → i < k → k < j → Within vector_range (nth x k)
  pub start : Within start_range (nth x j)

-- T = Σ over k > i of r(i,k) x(k), before column l
unfoldable pub row_sum : List ℤ → List ℤ → ℕ → ℕ → ℤ
row_sum t x i l = sum (l - suc i) (λ k. upper t i (suc i + k) *ℤ nth x (suc i + k))

-- x(i)
unfoldable pub entry_of : List ℤ → List ℤ → ℕ → ℕ → ℤ
entry_of t x i j = neg_ℤ (floor_div (pos 2 *ℤ row_sum t x i (suc j) +ℤ upper t i i) (pos 2 *ℤ upper t i i))

-- the solved vector that the code answers, of order n, or none
unfoldable pub solved_of : ℕ → Option (List ℤ) → List (List ℤ)
solved_of n (Some x) = tabulate n (nth x) ∷ []
solved_of n None = []
