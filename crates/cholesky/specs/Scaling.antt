-- What the code asks of the tables of L and U, and what it leaves in the table of H.
use Rattle.std.specs.Prelude.{◌≡◌, List, ℕ, ◌*◌, ◌≤◌, ◌<◌, ℤ, length}
use Rattle.integers.specs.Numbers.{Within}
use Rattle.tables.specs.Ranges.{greatest_order, table_room, entry_range}
use Rattle.tables.specs.Matrix.{Matrix, at}
use Rattle.cholesky.specs.Scale.{scaled}
use Rattle.cholesky.specs.Store.{upper}

-- the entries of L and U are within ±2^20
pub record Ranged (n : ℕ) (L U : Matrix) : Type 0 where
  pub low : (i j : ℕ) → i < n → j < n → Within entry_range (L i j)
  pub high : (i j : ℕ) → i < n → j < n → Within entry_range (U i j)

-- l and u hold such entries, row by row
pub record Lent (n : ℕ) (l u : List ℤ) : Type 0 where
  pub order : n ≤ greatest_order
  pub low-length : n * n ≤ length l
  pub high-length : n * n ≤ length u
  pub ranged : Ranged n (at n l) (at n u)

-- the columns of h before column m are those of H, each down to the diagonal
pub record Scaled (n : ℕ) (L U : Matrix) (h : List ℤ) (m : ℕ) : Type 0 where
  pub size : length h ≡ table_room
  pub entries : (i j : ℕ) → i ≤ j → j < m → upper h i j ≡ scaled n L U i j
